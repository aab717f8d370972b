-- What a fate asks of the memory: which bytes are shown, and whether a message stays, new or the same, finished or not.
use Rattle.std.specs.Prelude.{Bool, true, false, not, ◌||◌}
use Rattle.bunch_judging.specs.declared.Effect.{Effect}
use Rattle.bunch_judging.specs.declared.Fate.{Fate}

abbrev pub goes : Bool → Bool → Effect
goes held payload = record { shows_held = held; shows_payload = payload; stays = false; anew = false; finished = false }

-- an initial shows what it replaces
abbrev pub stays : Bool → Bool → Effect
stays anew finished = record { shows_held = anew; shows_payload = false; stays = true; anew = anew; finished = finished }

-- of a fragment that is initial or not, with no bits or some
unfoldable pub effect_of : Fate → Bool → Bool → Effect
effect_of Fate.TurnedAway initial zero = goes false false
effect_of (Fate.Breaks k) initial zero = goes true false
effect_of (Fate.Fails c) initial zero = goes true false
effect_of Fate.Joins initial zero = stays initial false
effect_of Fate.Finishes initial zero = stays initial true
effect_of Fate.Falls initial zero = goes (initial || not zero) (not zero)
