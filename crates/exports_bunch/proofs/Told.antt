-- What a call's promise says of the words and of the lent memory.
use Prim.Native.Nat.{ℕ}
use mathlib.Core.Path.{◌≡◌, ap, ◌∙◌}
use mathlib.Core.List.{List}
use Rattle.std.proofs.Common.{Option, Result}
use Rattle.bunch_held.specs.declared.Accumulator.{Accumulator}
use Rattle.bunch_held.specs.declared.BunchError.{BunchError}
use Rattle.bunch_held.specs.Memory.{HeldMemory, held_memory}
use Rattle.bunch_held.specs.Calls.{BunchReply}
use Rattle.bunch_joining.specs.declared.PreservedPartial.{PreservedPartial}
use Rattle.bunch_joining.specs.Taken.{of_taken}
use Rattle.bunch_joining.specs.declared.Judged.{Judged}
use Rattle.bunch_joining.specs.Added.{of_added}
use Rattle.exports_bunch_words.specs.Handed.{handed_words}
use Rattle.exports_bunch_words.specs.Fragments.{fragment_words}

-- the memory comes back in its three slices
module _ {channels arena channels' arena' : List ℕ} {places places' : List (List ℕ)} (same_channels : channels' ≡ channels) (same_places : places' ≡ places) (same_arena : arena' ≡ arena) where
  back : {m : HeldMemory} → held_memory channels places arena ≡ m → held_memory channels' places' arena' ≡ m
  back e = rw (same_channels, same_places, same_arena) e

  pub told_taken : (x : Result (Option PreservedPartial) BunchError) (a : Accumulator) {o : List ℕ} {y : BunchReply} {r : List ℕ} → of_taken x a (held_memory channels places arena) o ≡ y → ((k : HeldMemory) → (p : List ℕ) → r ≡ handed_words (of_taken x a k p))
      → (r ≡ handed_words y) × ((held_memory channels' places' arena' ≡ y.memory) × (o ≡ y.output))
  told_taken x a {o = o} e f = (f (held_memory channels places arena) o ∙ ap handed_words e, (back (ap (λ (z : BunchReply). z.memory) e), ap (λ (z : BunchReply). z.output) e))

  pub told_added : (x : Result Judged BunchError) (a : Accumulator) {o : List ℕ} {y : BunchReply} {r : List ℕ} → of_added x a (held_memory channels places arena) o ≡ y → ((k : HeldMemory) → (p : List ℕ) → r ≡ fragment_words (of_added x a k p))
      → (r ≡ fragment_words y) × ((held_memory channels' places' arena' ≡ y.memory) × (o ≡ y.output))
  told_added x a {o = o} e f = (f (held_memory channels places arena) o ∙ ap fragment_words e, (back (ap (λ (z : BunchReply). z.memory) e), ap (λ (z : BunchReply). z.output) e))
