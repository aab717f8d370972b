-- What the fate that a fragment meets says of the message that stays: it fits its place and the limits.
use Prim.Native.Nat.{ℕ, ◌+◌, ◌-◌, ◌%◌, ◌^◌, ◌≤◌, ◌<◌}
use mathlib.Core.Path.{◌≡◌, refl, sym, ap, ◌∙◌}
use mathlib.Core.Bool.{Bool, true, false, not, ◌&&◌, ◌||◌, cond}
use mathlib.Core.List.{List, []}
use native.Mathlib.Omega.{arith}
use lib.Dec.{eqb, leb, ltb}
use lib.ListN.{length, get_or, take}
use borrow.Author.Tests.{eqb-true, ltb-false, leb-false, not-true}
use Rattle.types.specs.declared.PartialSequenceKind.{PartialSequenceKind}
use Rattle.types.specs.declared.RawBunchHeader.{RawBunchHeader}
use Rattle.std.specs.Prelude.{Ok, Err}
use Rattle.tables.specs.Tables.{Found, none, found, put, without, slot_of}
use Rattle.bunch_places.specs.Bytes.{bytes_of}
use Rattle.bunch_judging.specs.declared.Effect.{Effect}
use Rattle.bunch_judging.specs.declared.Fate.{Fate}
use Rattle.bunch_judging.specs.Held.{Held, Fragment}
use Rattle.bunch_judging.specs.Fates.{sequence_word, follows, overlaps, weighed, admitted, continued, fate}
use Rattle.bunch_judging.specs.Messages.{joined_by, base, fresh, grown}
use Rattle.bunch_judging.specs.Effects.{effect_of}
use Rattle.bunch_judging.proofs.Meeting.{fate_case}
use Rattle.bunch_judging.proofs.Memory.{effect_on}
use Rattle.bunch_judging.proofs.Judged.{stays_unfinished}
use Rattle.bunch_held.specs.declared.Accumulator.{Accumulator}
use Rattle.bunch_held.specs.Memory.{HeldMemory, bits_in_place, State, held_at, total}
use Rattle.bunch_held.specs.State.{Good, Kept}
use Rattle.bunch_held.specs.Steps.{adding, full, over}
use Rattle.bunch_held.specs.Steps as Steps
use Rattle.bunch_held.specs.Calls.{held_by, limits_of}
use Rattle.bunch_held.proofs.Keeping.{good_held, put_kept}
use Rattle.bunch_held.proofs.Holding.{message_at, columns, kept, total_is}
use Rattle.bunch_held.proofs.Edits.{get_there, get_none, bits_removed, without_same}
use Rattle.bunch_settling.specs.Settling.{Using}
use Rattle.bunch_settling.specs.Fragments.{stayed_by}
use Rattle.bunch_settling.proofs.Growing.{good_grown}

-- ## The fate

over_weighed : (u final error initial zero : Bool) → (effect_of (weighed u true final error) initial zero).stays ≡ false
unfolding weighed effect_of
over_weighed true final error initial zero = refl
over_weighed false final error initial zero = refl

over_admitted : (final error initial zero : Bool) (bits : ℕ) → eqb bits 0 ≡ false → (effect_of (admitted true final error bits) initial zero).stays ≡ false
unfolding admitted
over_admitted final error initial zero bits e = rw e (over_weighed (not final && not (eqb (bits % 8) 0)) final error initial zero)

over_continued : (m : Found Held) (h : RawBunchHeader) (bits : ℕ) (initial zero : Bool) → eqb bits 0 ≡ false → (effect_of (continued true m h bits) initial zero).stays ≡ false
unfolding continued effect_of
over_continued none h bits initial zero e = refl
over_continued (found n) h bits initial zero e = go n.finished (follows n.sequence n.reliable h)
  where
    go : (done follow : Bool) → (effect_of (cond done (Fate.Breaks PartialSequenceKind.MissingInitial) (cond follow (admitted true h.b_partial_final h.has_partial_error bits) (Fate.Breaks PartialSequenceKind.MismatchedContinuation))) initial zero).stays ≡ false
    go true follow = refl
    go false true = over_admitted h.b_partial_final h.has_partial_error initial zero bits e
    go false false = refl

over_goes : (room : Bool) (m : Found Held) (h : RawBunchHeader) (bits : ℕ) (initial zero : Bool) → eqb bits 0 ≡ false → (effect_of (fate room true m h bits) initial zero).stays ≡ false
unfolding fate effect_of
over_goes room m h bits initial zero e = go h.b_partial_initial room (h.has_partial_error || overlaps m h.b_partial_initial)
  where
    go : (b r error : Bool) → (effect_of (cond b (cond r Fate.TurnedAway (admitted true h.b_partial_final error bits)) (continued true m h bits)) initial zero).stays ≡ false
    go true true error = refl
    go true false error = over_admitted h.b_partial_final error initial zero bits e
    go false r error = over_continued m h bits initial zero e

module _ (room much : Bool) (m : Found Held) (f : Fragment) where
  abbrev met : Effect
  met = effect_on (fate room much m f.header f.bits) f

  -- What stays though it is over the limit has no bits.
  over_empty : met.stays ≡ true → much ≡ true → f.bits ≡ 0
  over_empty s o = go (eqb f.bits 0) refl
    where
      go : (b : Bool) → eqb f.bits 0 ≡ b → f.bits ≡ 0
      go true e = eqb-true f.bits 0 e
      go false e = let z : met.stays ≡ false = rw o (over_goes room m f.header f.bits f.header.b_partial_initial (eqb f.bits 0) e) in cc

  -- What stays unfinished is aligned.
  even : met.stays ≡ true → met.finished ≡ false → f.bits % 8 ≡ 0
  unfolding effect_of
  even =
      fate_case (λ x. (effect_on x f).stays ≡ true → (effect_on x f).finished ≡ false → f.bits % 8 ≡ 0) room much m f.header f.bits
      (λ t s e. cc) (λ k s e. cc) (λ c s e. cc) (λ j a s e. a) (λ j s e. cc) (λ j l w s e. cc)

  stays_anew : met.stays ≡ true → met.anew ≡ f.header.b_partial_initial
  unfolding effect_of
  stays_anew =
      fate_case (λ x. (effect_on x f).stays ≡ true → (effect_on x f).anew ≡ f.header.b_partial_initial) room much m f.header f.bits
      (λ t s. cc) (λ k s. cc) (λ c s. cc) (λ j a s. refl) (λ j s. refl) (λ j l w s. cc)

-- A new message needs a place.
room_new : (room much : Bool) (f : Fragment) → (met room much none f).stays ≡ true → room ≡ false
unfolding fate continued effect_of
room_new room much f = go f.header.b_partial_initial room
  where
    go : (b r : Bool) → (effect_of (cond b (cond r Fate.TurnedAway (admitted much f.header.b_partial_final (f.header.has_partial_error || overlaps none f.header.b_partial_initial) f.bits)) (Fate.Breaks PartialSequenceKind.MissingInitial)) f.header.b_partial_initial (eqb f.bits 0)).stays ≡ true → r ≡ false
    go true true s = cc
    go true false s = refl
    go false r s = cc

-- ## The message that stays

-- It is good where what it joins is.
grown_good : (e : Effect) (m : Found Held) (h : RawBunchHeader) (f : Fragment) → ((n : Held) → m ≡ found n → e.anew ≡ false → Good n × (n.finished ≡ false)) → sequence_word h < 2 ^ 32
    → bytes_of f.bits ≤ length f.payload → (e.finished ≡ false → f.bits % 8 ≡ 0) → Good (stayed_by e m h f.bits f.payload)
grown_good e m h f held sequence enough whole = go e.anew refl m refl
  where
    new : Good (grown e.finished (fresh h) (record { header = h; bits = f.bits; payload = f.payload }))
    new = good_grown e.finished (fresh h) (record { header = h; bits = f.bits; payload = f.payload }) refl sequence refl refl enough whole

    go : (b : Bool) → e.anew ≡ b → (k : Found Held) → m ≡ k → Good (grown e.finished (base (joined_by b k) h) (record { header = h; bits = f.bits; payload = f.payload }))
    go true a k q = new
    go false a none q = new
    go false a (found n) q =
        let g = held n q a in
        good_grown e.finished (base (found n) h) (record { header = h; bits = f.bits; payload = f.payload }) g.0.header_words sequence (g.0.aligned g.1) g.0.sized enough whole

-- how many bits it has
stayed_bits : (b : Bool) (m : Found Held) (h : RawBunchHeader) → (base (joined_by b m) h).message.bits ≡ Steps.kept b m
stayed_bits true m h = refl
stayed_bits false none h = refl
stayed_bits false (found n) h = refl

kept_small : (b : Bool) (n : Held) → Steps.kept b (found n) ≤ n.message.bits
kept_small true n = omega arith
kept_small false n = omega arith

kept_none : (b : Bool) → Steps.kept b none ≡ 0
kept_none true = refl
kept_none false = refl

-- the limit that the fate was judged by holds of it
within : (limit rest bits k all : ℕ) (much : Bool) → much ≡ ltb limit (rest + (k + bits)) → (much ≡ true → bits ≡ 0) → rest + k ≤ all → all ≤ limit → rest + (k + bits) ≤ limit
within limit rest bits k all true e None-more r l = omega (arith, None-more refl)
within limit rest bits k all false e None-more r l = ltb-false limit (rest + (k + bits)) (sym e)

module _ (a : Accumulator) (m : HeldMemory) (used : ℕ) (u : Using a m used) (c i : ℕ) (f : Fragment) where
  abbrev s : State
  s = held_by a m

  module _ (slot : slot_of c (take a.active m.channels) ≡ Ok i) where
    abbrev p : List ℕ
    p = get_or m.places i []

    abbrev old : Held
    old = message_at m i

    pub not_full : false ≡ full (limits_of a) s c
    unfolding full
    not_full = rw (get_there a m u.stands c i slot) refl

    over_opened : over (limits_of a) s c (adding f) ≡ ltb a.max_buffered_bits (total (without c s) + (Steps.kept f.header.b_partial_initial (found old) + f.bits))
    unfolding over
    over_opened = rw (get_there a m u.stands c i slot) refl

    pub over_there : ltb a.max_buffered_bits (a.total_buffered_bits - bits_in_place p + (Steps.kept f.header.b_partial_initial (found old) + f.bits)) ≡ over (limits_of a) s c (adding f)
    over_there =
        let e : total (without c s) ≡ a.total_buffered_bits - bits_in_place p = omega (arith, bits_removed a m u.stands c i slot) in
        rw (over_opened, e) refl

    pub stays_kept : (h : RawBunchHeader) → sequence_word h < 2 ^ 32 → bytes_of f.bits ≤ length f.payload → (much : Bool) → much ≡ over (limits_of a) s c (adding f) → (met false much (found old) f).stays ≡ true
        → Kept a (put c (stayed_by (met false much (found old) f) (found old) h f.bits f.payload) s)
    unfolding held_at
    stays_kept h sequence enough much is stays =
        let st = u.stands in
        let e = met false much (found old) f in
        let k = kept a m st in
        let there = get_there a m st c i slot in
        let anew = stays_anew false much (found old) f stays in
        let joins = Steps.kept f.header.b_partial_initial (found old) in
        let bits : (stayed_by e (found old) h f.bits f.payload).message.bits ≡ joins + f.bits = ap (λ (n : ℕ). n + f.bits) (stayed_bits e.anew (found old) h ∙ ap (λ (b : Bool). Steps.kept b (found old)) anew) in
        let fits = within a.max_buffered_bits (total (without c s)) f.bits joins a.total_buffered_bits much (is ∙ over_opened) (over_empty false much (found old) f stays) (omega (arith, bits_removed a m st c i slot, kept_small f.header.b_partial_initial old)) st.total_fits in
        put_kept a s k c (stayed_by e (found old) h f.bits f.payload)
        (grown_good e (found old) h f (λ n q b. let same : old ≡ n = cc in rw (← same) (good_held c s there k.good, not-true old.finished (stays_unfinished false much (found old) f stays (sym anew ∙ b)))) sequence enough (even false much (found old) f stays))
        (λ n. let z : ◌≡◌ {A = ℕ} 0 1 = cc in absurd (omega arith)) (rw bits fits)

  module _ (slot : slot_of c (take a.active m.channels) ≡ Err i) where
    pub full_free : leb a.max_active a.active ≡ full (limits_of a) s c
    unfolding full
    full_free = rw (get_none a m u.stands c i slot, (columns a m u.stands).size) refl

    pub over_free : ltb a.max_buffered_bits (a.total_buffered_bits + f.bits) ≡ over (limits_of a) s c (adding f)
    unfolding over
    over_free =
        let st = u.stands in
        let e : 0 + f.bits ≡ f.bits = omega arith in
        rw (get_none a m st c i slot, without_same a m st c i slot, total_is a m st, kept_none f.header.b_partial_initial, e) refl

    pub new_kept : (h : RawBunchHeader) → sequence_word h < 2 ^ 32 → bytes_of f.bits ≤ length f.payload → (room much : Bool) → room ≡ full (limits_of a) s c → much ≡ over (limits_of a) s c (adding f) → (met room much none f).stays ≡ true
        → Kept a (put c (stayed_by (met room much none f) none h f.bits f.payload) s)
    new_kept h sequence enough room much is-full is stays =
        let st = u.stands in
        let e = met room much none f in
        let k = kept a m st in
        let same = without_same a m st c i slot in
        let bits : (stayed_by e none h f.bits f.payload).message.bits ≡ 0 + f.bits = ap (λ (n : ℕ). n + f.bits) (stayed_bits e.anew none h ∙ kept_none e.anew) in
        let much_is : much ≡ ltb a.max_buffered_bits (a.total_buffered_bits + (0 + f.bits)) = is ∙ sym over_free ∙ (let z : 0 + f.bits ≡ f.bits = omega arith in rw z refl) in
        let fits = within a.max_buffered_bits a.total_buffered_bits f.bits 0 a.total_buffered_bits much much_is (over_empty room much none f stays) (omega arith) st.total_fits in
        put_kept a s k c (stayed_by e none h f.bits f.payload)
        (grown_good e none h f (λ n q b. let z : ◌≡◌ {A = ℕ} 0 1 = cc in absurd (omega arith)) sequence enough (even room much none f stays))
        (λ n. omega (arith, leb-false a.max_active a.active (full_free ∙ sym is-full ∙ room_new room much f stays), (columns a m st).size)) (rw (bits, same, total_is a m st) fits)
