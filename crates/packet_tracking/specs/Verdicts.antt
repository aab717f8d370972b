-- What the code's enums of the partial tracker mean. What the contracts of `inner` name; a reader of the public calls can pass over it.
use Rattle.std.specs.Prelude.{ℕ, ◌<◌, ◌≡◌, List, length, Option, Some, None}
use Rattle.tables.specs.Tables.{Found, none, found}
use Rattle.packet_tracking.specs.declared.inner.partials.InFlight.{InFlight}
use Rattle.packet_tracking.specs.declared.inner.partials.Effect as I
use Rattle.packet_tracking.specs.declared.inner.partials.Verdict.{Verdict}
use Rattle.types.specs.Continuing.{Partial}
use Rattle.packet_tracking.specs.Partials.{Effect, stays, puts, removed, Tracked, tracked}

abbrev pub in_flight_of : Option InFlight → Found Partial
in_flight_of None = none
in_flight_of (Some p) = found (p.sequence, p.reliable)

abbrev pub tracking_effect : I.Effect → Effect
tracking_effect I.Effect.Stays = stays
tracking_effect I.Effect.Puts = puts
tracking_effect I.Effect.Removed = removed

abbrev pub verdict_of : Verdict → Tracked
verdict_of v = tracked (tracking_effect v.effect) v.tracked.error v.tracked.completed

-- what is put has a place in each column
pub record Roomy (e : I.Effect) (live : ℕ) (channels sequences reliables : List ℕ) : Type 0 where
  pub roomy : e ≡ I.Effect.Puts → (live < length channels) × (live < length sequences) × (live < length reliables)
