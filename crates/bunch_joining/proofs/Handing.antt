-- What the channel's step is at each slot, and what handing out gives.
use Prim.Native.Nat.{ℕ, ◌≤◌, ◌<◌}
use mathlib.Core.Path.{◌≡◌, refl}
use mathlib.Core.Bool.{true, false}
use mathlib.Core.List.{List, []}
use native.Mathlib.Omega.{arith}
use lib.ListN.{length, get_or, take, drop}
use borrow.Author.Tests.{lt-ltb, le-ltb, eq-eqb, ne_eqb}
use Rattle.bitio_window.specs.Refusals.{output_short}
use Rattle.std.specs.Prelude.{None, Ok, Err}
use Rattle.tables.specs.Tables.{none, found, get, without, slot_of}
use Rattle.words.specs.Words.{header_from}
use Rattle.bunch_places.specs.Bytes.{pasted, part}
use Rattle.bunch_places.proofs.Pastes.{length_part}
use Rattle.bunch_judging.specs.Held.{Held}
use Rattle.bunch_held.specs.declared.Accumulator.{Accumulator}
use Rattle.bunch_held.specs.declared.BunchError.{BunchError}
use Rattle.bunch_held.specs.Memory.{HeldMemory, bits_in_place, size_of, size_all, held_at}
use Rattle.bunch_held.specs.Steps.{handed, call_refuses, nothing_held, taken, retired}
use Rattle.bunch_held.specs.Calls.{held_by}
use Rattle.bunch_held.proofs.Holding.{message_at, kept}
use Rattle.bunch_held.proofs.Keeping.{without_kept}
use Rattle.bunch_held.proofs.Edits.{get_there, get_none}
use Rattle.bunch_settling.specs.declared.inner.messages.Settled.{Settled}
use Rattle.bunch_settling.specs.Settling.{Using, Lays}
use Rattle.bunch_settling.specs.Giving.{Gives}
use Rattle.bunch_settling.proofs.Numbers.{spot}
use Rattle.bunch_settling.proofs.Giving.{at_same, free_same, unchanged, changes}
use Rattle.bunch_joining.specs.Taken.{of_handed}

untaken : (h : Held) (output : List ℕ) → h.finished ≡ false → taken (found h) output ≡ nothing_held (found h) output
unfolding taken
untaken h output e = rw e refl

as_retired : (h : Held) (output : List ℕ) → h.finished ≡ true → taken (found h) output ≡ retired (found h) output
unfolding taken retired
as_retired h output e = rw e refl

module _ (a : Accumulator) (m : HeldMemory) (used : ℕ) (u : Using a m used) (c i : ℕ) where
  module _ (slot : slot_of c (take a.active m.channels) ≡ Ok i) where
    abbrev p : List ℕ
    p = get_or m.places i []

    abbrev start : ℕ
    start = size_all (take i m.places)

    message_size : length (message_at m i).message.bytes ≡ size_of p
    unfolding held_at
    message_size = length_part start (size_of p) m.arena (omega (arith, spot a m used u c i slot))

    retired_short : (output : List ℕ) → length output < size_of p → retired (get c (held_by a m)) output ≡ call_refuses (output_short (size_of p)) (found (message_at m i)) output
    unfolding retired
    retired_short output h = rw (get_there a m u.stands c i slot, message_size, lt-ltb (length output) (size_of p) h) refl

    retired_shown : (output : List ℕ) → size_of p ≤ length output
        → retired (get c (held_by a m)) output ≡ record { answer = handed (record { header = header_from (drop 4 p); bits = bits_in_place p }); output = pasted 0 (part start (size_of p) m.arena) output; held = none }
    unfolding retired held_at
    retired_shown output h = rw (get_there a m u.stands c i slot, message_size, le-ltb (length output) (size_of p) h) refl

    pub gives_short : (n : ℕ) (output : List ℕ) → n ≡ size_of p → length output < n
        → Gives a m c (retired (get c (held_by a m)) output) (of_handed (Err (BunchError.OutputShort n))) (record { accumulator = a; used = used }) m output
    gives_short n output e h =
        rw (e, retired_short output (rw e at h)) (unchanged a m used u c (call_refuses (output_short (size_of p)) (found (message_at m i)) output) refl refl (at_same a m used u c i slot))

    pub gives_message : (output : List ℕ) {out : List ℕ} {left : Settled} {after : HeldMemory} → size_of p ≤ length output → out ≡ pasted 0 (part start (size_of p) m.arena) output
        → Lays a m (without c (held_by a m)) left after
        → Gives a m c (retired (get c (held_by a m)) output) (handed (record { header = header_from (drop 4 p); bits = bits_in_place p })) left after out
    gives_message output h e l =
        rw (retired_shown output h)
        (changes a m used u c (record { answer = handed (record { header = header_from (drop 4 p); bits = bits_in_place p }); output = pasted 0 (part start (size_of p) m.arena) output; held = none }) refl e (without_kept a (held_by a m) (kept a m u.stands) c) l)

    -- taking: as retiring where the message is finished
    pub taken_finished : (output : List ℕ) → get_or p 1 0 ≡ 1 → taken (get c (held_by a m)) output ≡ retired (get c (held_by a m)) output
    unfolding held_at
    taken_finished output e = rw (get_there a m u.stands c i slot) (as_retired (message_at m i) output (eq-eqb (get_or p 1 0) 1 e))

    pub taken_not : (output : List ℕ) → (get_or p 1 0 ≡ 1 → ⊥)
        → Gives a m c (taken (get c (held_by a m)) output) (of_handed (Ok None)) (record { accumulator = a; used = used }) m output
    unfolding held_at
    taken_not output n =
        rw (get_there a m u.stands c i slot, untaken (message_at m i) output (ne_eqb (get_or p 1 0) 1 n)) (unchanged a m used u c (nothing_held (found (message_at m i)) output) refl refl (at_same a m used u c i slot))

  module _ (slot : slot_of c (take a.active m.channels) ≡ Err i) (output : List ℕ) where
    nothing_is_held : Gives a m c (nothing_held none output) (of_handed (Ok None)) (record { accumulator = a; used = used }) m output
    nothing_is_held = (unchanged a m used u c (nothing_held none output) refl refl (free_same a m used u c i slot))

    pub retired_nothing : Gives a m c (retired (get c (held_by a m)) output) (of_handed (Ok None)) (record { accumulator = a; used = used }) m output
    unfolding retired
    retired_nothing = rw (get_none a m u.stands c i slot) nothing_is_held

    pub taken_nothing : Gives a m c (taken (get c (held_by a m)) output) (of_handed (Ok None)) (record { accumulator = a; used = used }) m output
    unfolding taken
    taken_nothing = rw (get_none a m u.stands c i slot) nothing_is_held
