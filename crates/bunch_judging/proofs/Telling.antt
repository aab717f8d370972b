-- What a fate displaces, where the definition joins two lists.
use mathlib.Core.Path.{◌≡◌}
use mathlib.Core.Bool.{true, false}
use mathlib.Core.List.{[], ◌∷◌, ◌++◌, append-nil, map-append}
use lib.Dec.{eqb}
use Rattle.types.specs.declared.PartialSequenceKind.{PartialSequenceKind}
use Rattle.tables.specs.Tables.{Found}
use Rattle.bunch_judging.specs.declared.PartialDiscardCause.{PartialDiscardCause}
use Rattle.bunch_judging.specs.declared.Fate.{Fate}
use Rattle.bunch_judging.specs.Held.{Held, Fragment}
use Rattle.bunch_judging.specs.Messages.{displaced_by, replaced, fallen, displaced}
use Rattle.bunch_judging.specs.Standings.{value_of, displaced_values}

module _ (m : Found Held) (f : Fragment) where
  pub initial_fails : (c : PartialDiscardCause) → f.header.b_partial_initial ≡ true
      → displaced (Fate.Fails c) m f ≡ displaced_by (PartialDiscardCause.Sequence PartialSequenceKind.OverlappingInitial) m
  unfolding displaced
  initial_fails c e = rw e (append-nil (displaced_by _ m))

  pub empty_falls : eqb f.bits 0 ≡ true → displaced Fate.Falls m f ≡ replaced m f
  unfolding displaced
  empty_falls e = rw e (append-nil (replaced m f))

  pub falls : eqb f.bits 0 ≡ false → displaced_values (displaced Fate.Falls m f) ≡ displaced_values (replaced m f) ++ (value_of (fallen m f) ∷ [])
  unfolding displaced
  falls e = rw e (map-append value_of (replaced m f) (fallen m f ∷ []))
