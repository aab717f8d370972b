-- What opening and draining leave: sound memory that holds nothing; and a refused drain leaves all as it was.
use Prim.Native.Nat.{ℕ}
use mathlib.Core.Path.{◌≡◌, refl, sym, ◌∙◌}
use mathlib.Core.Bool.{Bool, true, false, cond}
use mathlib.Core.List.{List, [], ◌∷◌}
use native.Mathlib.Omega.{arith}
use lib.Dec.{ltb}
use lib.ListN.{length}
use borrow.Author.Tests.{lt-ltb}
use Rattle.bitio_window.specs.Refusals.{Refusal, unfit, unsound, output_short, too_few_places}
use Rattle.std.proofs.Common.{Ok, Err}
use Rattle.tables.specs.Columns.{laid, above, ascending}
use Rattle.tables.specs.Tables.{channels}
use Rattle.tables.proofs.Ascending.{above_rest, above_less, ascending_rest}
use Rattle.bunch_places.specs.Packed.{joined}
use Rattle.bunch_held.specs.declared.Accumulator.{Accumulator}
use Rattle.bunch_held.specs.Memory.{HeldMemory, State, bytes_all, laid_in, total}
use Rattle.bunch_held.specs.Sound.{fit, memory_sound}
use Rattle.bunch_held.specs.Calls.{held_by, counting}
use Rattle.bunch_held.proofs.Soundness.{stands, fits}
use Rattle.bunch_held.proofs.Laying.{empty_held, empty_sound}
use Rattle.bunch.specs.Opening.{holding_nothing, opened_accumulator}
use Rattle.bunch.specs.Draining.{unfinished, DrainReply, drain_refuses, lists, drained}

-- ## Opening

-- "The accumulator's opening gives 9 for nothing else": an opened accumulator fits its memory, which is sound and holds nothing
pub opened_sound : (active buffered : ℕ) (m : HeldMemory) {a : Accumulator} → opened_accumulator active buffered m ≡ Ok a → (memory_sound a m ≡ true) × (held_by a m ≡ [])
unfolding opened_accumulator
opened_sound active buffered m {a} e = go (fit active buffered m) refl e
  where
    go : (b : Bool) → fit active buffered m ≡ b → cond b (Ok (holding_nothing active buffered)) (Err unfit) ≡ Ok a → (memory_sound a m ≡ true) × (held_by a m ≡ [])
    go true f q =
        let same : holding_nothing active buffered ≡ a = cc in
        rw (← same) (empty_sound (holding_nothing active buffered) m refl refl f, empty_held (holding_nothing active buffered) m refl refl)
    go false f q = ((cc), (cc))

-- ## Draining

-- nothing laid is nothing changed
pub nothing_laid : (m : HeldMemory) → laid_in [] m ≡ m
unfolding laid_in laid joined
nothing_laid m = refl

-- the listed messages are by ascending channel
above_unfinished : (c : ℕ) (s : State) → above c (channels s) ≡ true → above c (channels (unfinished s)) ≡ true
unfolding unfinished above
above_unfinished c [] a = refl
above_unfinished c (e ∷ s) a =
    let p = above_rest c e.0 (channels s) a in
    go e.1.finished (above_unfinished c s (above_less c e.0 (channels s) (omega (arith, p.0)) p.1)) (rw (lt-ltb c e.0 p.0) (above_unfinished e.0 s p.1))
  where
    go : (b : Bool) → above c (channels (unfinished s)) ≡ true → above c (channels (e ∷ unfinished s)) ≡ true → above c (channels (cond b (unfinished s) (e ∷ unfinished s))) ≡ true
    go true dropped listed = dropped
    go false dropped listed = listed

pub unfinished_ascends : (s : State) → ascending (channels s) ≡ true → ascending (channels (unfinished s)) ≡ true
unfolding unfinished ascending
unfinished_ascends [] a = refl
unfinished_ascends (e ∷ s) a = go e.1.finished (unfinished_ascends s (ascending_rest e.0 (channels s) a)) (above_unfinished e.0 s a)
  where
    go : (b : Bool) → ascending (channels (unfinished s)) ≡ true → above e.0 (channels (unfinished s)) ≡ true → ascending (channels (cond b (unfinished s) (e ∷ unfinished s))) ≡ true
    go true dropped listed = dropped
    go false dropped listed = listed

module _ (a : Accumulator) (m : HeldMemory) (output : List ℕ) (list : List (List ℕ)) where
  abbrev x : DrainReply
  x = drained a m output list

  abbrev u : State
  u = unfinished (held_by a m)

  -- refused, or all of it done
  drained_case : (P : DrainReply → Type 0) → ((e : Refusal) → P (drain_refuses e a output list)) → (memory_sound a m ≡ true → P (lists u a output list)) → P x
  unfolding drained
  drained_case P refusing done = go (memory_sound a m) refl (ltb (length output) (length (bytes_all u))) (ltb (length list) (length u))
    where
      go : (b : Bool) → memory_sound a m ≡ b → (short full : Bool)
          → P (cond b (cond short (drain_refuses (output_short (length (bytes_all u))) a output list) (cond full (drain_refuses (too_few_places (length u)) a output list) (lists u a output list))) (drain_refuses unsound a output list))
      go true s true full = refusing _
      go true s false true = refusing _
      go true s false false = done s
      go false s short full = refusing _

  emptied_sound : memory_sound a m ≡ true → memory_sound (counting a []) m ≡ true
  unfolding total
  emptied_sound s = empty_sound (counting a []) m refl refl (fits a m (stands a m s).opens)

  -- memory is sound afterwards where it was before, whatever the answer
  pub lasts : memory_sound x.accumulator m ≡ memory_sound a m
  lasts = drained_case (λ (r : DrainReply). memory_sound r.accumulator m ≡ memory_sound a m) (λ e. refl) (λ s. emptied_sound s ∙ sym s)

  -- an answer that is no refusal leaves nothing held
  pub holds_nothing : {n : ℕ} → x.answer ≡ Ok n → held_by x.accumulator m ≡ []
  unfolding total
  holds_nothing {n} = drained_case (λ (r : DrainReply). r.answer ≡ Ok n → held_by r.accumulator m ≡ []) (λ e q. cc) (λ s q. empty_held (counting a []) m refl refl)

  -- "a refused … drain has written nothing"
  pub refused_same : {e : Refusal} → x.answer ≡ Err e → (x.accumulator ≡ a) × (x.output ≡ output) × (x.list ≡ list)
  refused_same {e} =
      drained_case (λ (r : DrainReply). r.answer ≡ Err e → (r.accumulator ≡ a) × (r.output ≡ output) × (r.list ≡ list)) (λ f q. (refl, refl, refl)) (λ s q. ((cc), (cc), (cc)))
