-- What the memory does is what the definition says: the bytes shown are those displaced, and the message left is the one held afterwards.
use mathlib.Core.Path.{◌≡◌, refl, ◌∙◌}
use mathlib.Core.Bool.{Bool, true, false, not, ◌||◌, cond}
use mathlib.Core.List.{List, [], ◌∷◌, ◌++◌, append-nil, append_assoc}
use Prim.Native.Nat.{ℕ}
use lib.Dec.{eqb}
use Rattle.types.specs.declared.RawBunchHeader.{RawBunchHeader}
use Rattle.tables.specs.Tables.{Found, none, found}
use Rattle.bunch_places.specs.Bytes.{payload_bytes}
use Rattle.bunch_judging.specs.declared.PartialDiscardCause.{PartialDiscardCause}
use Rattle.bunch_judging.specs.declared.Effect.{Effect}
use Rattle.bunch_judging.specs.declared.Fate.{Fate}
use Rattle.bunch_judging.specs.Held.{Held, Fragment, Displaced}
use Rattle.bunch_judging.specs.Headers.{after_test}
use Rattle.bunch_judging.specs.Messages.{replaced_by, joined_by, base, grown, held_after, displaced_by, displaced, bytes_of_all}
use Rattle.bunch_judging.specs.Effects.{effect_of}

abbrev pub effect_on : Fate → Fragment → Effect
effect_on x f = effect_of x f.header.b_partial_initial (eqb f.bits 0)

abbrev pub bytes_held : Found Held → List ℕ
bytes_held none = []
bytes_held (found m) = m.message.bytes

abbrev pub shown : Effect → Found Held → Fragment → List ℕ
shown e m f = cond e.shows_held (bytes_held m) [] ++ cond e.shows_payload (payload_bytes f.bits f.payload) []

abbrev pub left_after : Effect → Found Held → Fragment → Found Held
left_after e m f = cond e.stays (found (grown e.finished (base (joined_by e.anew m) (after_test m f.header)) f)) none

appended : (xs ys : List Displaced) → bytes_of_all (xs ++ ys) ≡ bytes_of_all xs ++ bytes_of_all ys
unfolding bytes_of_all
appended [] ys = refl
appended (x ∷ xs) ys = rw (appended xs ys, append_assoc)

by : (c : PartialDiscardCause) (m : Found Held) → bytes_of_all (displaced_by c m) ≡ bytes_held m
unfolding bytes_of_all
by c none = refl
by c (found m) = append-nil m.message.bytes

alone : (c : PartialDiscardCause) (m : Found Held) → bytes_of_all (displaced_by c m) ≡ bytes_held m ++ []
alone c m = by c m ∙ rw append-nil

either : (c : PartialDiscardCause) (b : Bool) (m : Found Held) → bytes_of_all (displaced_by c (replaced_by b m)) ≡ cond b (bytes_held m) [] ++ []
unfolding bytes_of_all
either c true m = alone c m
either c false m = refl

both : (c d : PartialDiscardCause) (b : Bool) (m : Found Held) → bytes_of_all (displaced_by c (replaced_by b m) ++ displaced_by d (joined_by b m)) ≡ bytes_held m ++ []
unfolding bytes_of_all
both c d true m = rw (appended (displaced_by c m) [], by c m)
both c d false m = alone d m

join_bytes : (m : Found Held) (h : RawBunchHeader) → (base m h).message.bytes ≡ bytes_held m
join_bytes none h = refl
join_bytes (found m) h = refl

ends : (c : PartialDiscardCause) (b zero : Bool) (m : Found Held) (x : Displaced) (payload : List ℕ) → x.message.bytes ≡ bytes_held (joined_by b m) ++ payload
    → bytes_of_all (displaced_by c (replaced_by b m) ++ cond zero [] (x ∷ [])) ≡ cond (b || not zero) (bytes_held m) [] ++ cond (not zero) payload []
unfolding bytes_of_all
ends c true true m x payload e = rw (appended (displaced_by c m) [], by c m)
ends c true false m x payload e = rw (appended (displaced_by c m) (x ∷ []), by c m, e, append-nil payload)
ends c false true m x payload e = refl
ends c false false m x payload e = rw (append-nil x.message.bytes) e

pub bytes_shown : (x : Fate) (m : Found Held) (f : Fragment) → bytes_of_all (displaced x m f) ≡ shown (effect_on x f) m f
unfolding displaced bytes_of_all effect_of
bytes_shown Fate.TurnedAway m f = refl
bytes_shown (Fate.Breaks k) m f = alone _ m
bytes_shown (Fate.Fails c) m f = both _ c f.header.b_partial_initial m
bytes_shown Fate.Joins m f = either _ f.header.b_partial_initial m
bytes_shown Fate.Finishes m f = either _ f.header.b_partial_initial m
bytes_shown Fate.Falls m f =
    ends _ f.header.b_partial_initial (eqb f.bits 0) m _ (payload_bytes f.bits f.payload)
    (rw (join_bytes (joined_by f.header.b_partial_initial m) (after_test m f.header)))

-- A fragment is turned away only where its channel holds nothing.
pub message_left : (x : Fate) (m : Found Held) (f : Fragment) → (x ≡ Fate.TurnedAway → m ≡ none) → held_after x m f ≡ left_after (effect_on x f) m f
unfolding held_after effect_of
message_left Fate.TurnedAway m f only = only refl
message_left (Fate.Breaks k) m f only = refl
message_left (Fate.Fails c) m f only = refl
message_left Fate.Joins m f only = refl
message_left Fate.Finishes m f only = refl
message_left Fate.Falls m f only = refl
