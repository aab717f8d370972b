-- The walk while it goes: what the list's first k places hold, and the rest of the walk.
use mathlib.Core.Path.{◌≡◌, refl, sym, ap, ◌∙◌}
use mathlib.Core.List.{List, [], ◌++◌}
use Prim.Native.Nat.{ℕ, suc, ◌+◌, ◌-◌, ◌≤◌, ◌<◌}
use native.Mathlib.Omega.{arith}
use lib.ListN.{length, set, take, drop, length-set, take-append-drop, drop_of_length-le}
use lib.Seq.{drop-cons, append_snoc, drop-set-lt, take-suc-set}
use Rattle.bitio_window.specs.declared.Window.{Window}
use Rattle.bitio_window.specs.Refusals.{place_of, list_full}
use Rattle.bitio_window.specs.Parse.{Answer, got, refused, Parse}
use Rattle.bitio_window.specs.Sound.{Sound}
use Rattle.field_walking.specs.declared.FieldRecord.{FieldRecord}
use Rattle.field_walking.specs.Records.{Looked, finds, bits_left}
use Rattle.field_walking.specs.Walks.{Stop, Walked, record_numbers, stopped, with_record, walked_on, walk, walked}
use Rattle.field_walking.proofs.Moves.{On}

pub on_less : {d : List ℕ} {w u : Window} → On 8 w u → Sound d u → bits_left u < bits_left w
on_less o s = rw o.length (omega (arith, o.on, (rw o.length at s).cursor_within))

-- k records stand before
abbrev before : List (List ℕ) → ℕ → Walked → Walked
before ps k x = record { places = ps ++ x.places; count = k + x.count; answer = x.answer }

same : {p q : List (List ℕ)} {m n : ℕ} {a : Answer Stop} → p ≡ q → m ≡ n → ◌≡◌ {A = Walked} (record { places = p; count = m; answer = a }) (record { places = q; count = n; answer = a })
same e f = rw (e, f)

pub record Going (look : Parse Looked) (d : List ℕ) (w₀ : Window) (ps₀ ps : List (List ℕ)) (w : Window) (k : ℕ) : Type 0 where
  pub sound : Sound d w
  pub room : k + bits_left w ≤ bits_left w₀
  pub size : length ps ≡ length ps₀
  pub whole : before (take k ps) k (walk look (suc (bits_left w₀ - k)) d (drop k ps) w) ≡ walked look d ps₀ w₀

pub begins : (look : Parse Looked) (d : List ℕ) (w : Window) (ps : List (List ℕ)) → Sound d w → Going look d w ps ps w 0
begins look d w ps s = record { sound = s; room = omega arith; size = refl; whole = let z : bits_left w - 0 ≡ bits_left w = omega arith in rw z (same refl (omega arith)) }

module _ {look : Parse Looked} {d : List ℕ} {w₀ : Window} {ps₀ ps : List (List ℕ)} {w : Window} {k : ℕ} (g : Going look d w₀ ps₀ ps w k) where
  -- where what was looked at stops it, the list is as it is and k were written
  pub stops : {x : Answer Looked} {a : Answer Stop} → look d w ≡ x → walked_on (drop k ps) w x (walk look (bits_left w₀ - k) d) ≡ stopped (drop k ps) a
      → record { places = ps; count = k; answer = a } ≡ walked look d ps₀ w₀
  unfolding walk
  stops {a = a} h e =
      let p : before (take k ps) k (stopped (drop k ps) a) ≡ record { places = ps; count = k; answer = a } = same (take-append-drop k ps) (omega arith) in
      let q : walk look (suc (bits_left w₀ - k)) d (drop k ps) w ≡ stopped (drop k ps) a = rw h e in
      sym p ∙ ap (before (take k ps) k) (sym q) ∙ g.whole

  -- a record that finds no place leaves the list as it is
  pub stops_full : {r : FieldRecord} {u : Window} → look d w ≡ got (finds r) u → length ps ≤ k → record { places = ps; count = k; answer = refused (list_full (place_of w)) w } ≡ walked look d ps₀ w₀
  stops_full h p = stops h (rw (drop_of_length-le ps p))

  -- a record that has a place
  pub goes_on : {r : FieldRecord} {u : Window} → look d w ≡ got (finds r) u → k < length ps → On 8 w u → Sound d u → Going look d w₀ ps₀ (set ps k (record_numbers r)) u (k + 1)
  unfolding walk
  goes_on {r} {u} h f o s =
      let room : suc k + bits_left u ≤ bits_left w₀ = omega (arith, g.room, on_less o s) in
      let n : bits_left w₀ - k ≡ suc (bits_left w₀ - suc k) = omega (arith, room) in
      let x = walk look (suc (bits_left w₀ - suc k)) d (drop (suc k) ps) u in
      let step : walk look (suc (bits_left w₀ - k)) d (drop k ps) w ≡ with_record (record_numbers r) x =
      rw (drop-cons ps k [] f, h, n) refl
      in
      let same : before (take (suc k) (set ps k (record_numbers r))) (suc k) (walk look (suc (bits_left w₀ - suc k)) d (drop (suc k) (set ps k (record_numbers r))) u)
      ≡ before (take k ps) k (with_record (record_numbers r) x) =
      rw (take-suc-set ps k (record_numbers r) f, drop-set-lt (suc k) ps k (record_numbers r) (omega arith), append_snoc (take k ps) (record_numbers r) x.places) (same refl (omega arith))
      in
      let q : k + 1 ≡ suc k = omega arith in
      rw q
      (record {
        sound = s;
        room = room;
        size = length-set ps k (record_numbers r) ∙ g.size;
        whole = same ∙ ap (before (take k ps) k) (sym step) ∙ g.whole;
      })
