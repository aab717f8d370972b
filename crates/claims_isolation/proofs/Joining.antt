-- An unbroken chain by itself, on a channel holding nothing: each fragment is accepted, and the message is held finished after the
-- last. The weight lies in one fragment, which nothing stops from joining.
use Prim.Native.Nat.{ℕ, ◌+◌, ◌*◌, ◌%◌}
use mathlib.Core.Path.{◌≡◌, refl, ◌∙◌}
use mathlib.Core.Bool.{Bool, true, false, not, ◌&&◌, cond, false≢true}
use mathlib.Core.List.{List, [], ◌∷◌, ◌++◌, map, append-nil, append_assoc}
use native.Mathlib.Omega.{arith}
use lib.Dec.{eqb}
use lib.ListN.{length}
use mir.Val.{bool_byte}
use borrow.Author.Tests.{eq-eqb, le-ltb}
use Rattle.types.specs.declared.RawBunchHeader.{RawBunchHeader}
use Rattle.tables.specs.Columns.{laid}
use Rattle.tables.specs.Tables.{Found, none, found}
use Rattle.types.specs.Continuing.{continues}
use Rattle.words.specs.Words.{header_words}
use Rattle.bunch_places.specs.Bytes.{pasted, payload_bytes}
use Rattle.bunch_judging.specs.Held.{Message, message_of, Held, Fragment}
use Rattle.bunch_judging.specs.Fates.{sequence_word, follows, overlaps, ending, weighed, admitted, continued, fate}
use Rattle.bunch_judging.specs.Headers.{after_test}
use Rattle.bunch_judging.specs.Messages.{replaced_by, joined_by, base, grown, joined_to, held_after, displaced, bits_of_all, bytes_of_all}
use Rattle.bunch_judging.specs.Results.{accepted, result_of}
use Rattle.bunch_held.specs.Steps.{Local, adding, added, locally}
use Rattle.claims_isolation.specs.Runs.{Call, Each}
use Rattle.claims_isolation.specs.Chains.{Plain, GoesOn, Unbroken, joined_bits, joined_bytes, accepted_plainly, acts_of, answers_of}
use Rattle.claims_isolation.proofs.Alone.{by_itself, alone, held_alone}

-- ## One fragment

-- it is accepted, and joins j; nothing is displaced, so the output stays
abbrev accepts : Found Held → Fragment → List ℕ → Local
accepts j f output = record { answer = accepted_plainly f; output = output; held = found (grown f.header.b_partial_final (base j f.header) f) }

module _ (f : Fragment) (p : Plain f) where
  admitted_ends : admitted false f.header.b_partial_final false f.bits ≡ ending f.header.b_partial_final false
  unfolding admitted weighed
  admitted_ends = go f.header.b_partial_final refl (eqb f.bits 0)
    where
      go : (final : Bool) → f.header.b_partial_final ≡ final → (zero : Bool)
          → cond zero (ending final false) (weighed (not final && not (eqb (f.bits % 8) 0)) false final false) ≡ ending final false
      go final e true = refl
      go true e false = refl
      go false e false = rw (eq-eqb (f.bits % 8) 0 (p.aligned e)) refl

  module _ (m j : Found Held) (ends : fate false false m f.header f.bits ≡ ending f.header.b_partial_final false)
      (calm : overlaps m f.header.b_partial_initial ≡ false) (replaces : replaced_by f.header.b_partial_initial m ≡ none)
      (joins : joined_by f.header.b_partial_initial m ≡ j) where
    none_displaced : (final : Bool) → displaced (ending final false) m f ≡ []
    unfolding ending displaced
    none_displaced true = rw replaces refl
    none_displaced false = rw replaces refl

    no_error : (final : Bool) → result_of (ending final false) m f ≡ accepted f.header (eqb f.bits 0) final 0 0
    unfolding ending displaced result_of bits_of_all after_test
    no_error true = rw (replaces, calm) refl
    no_error false = rw (replaces, calm) refl

    held_on : (final : Bool) → held_after (ending final false) m f ≡ found (grown final (base j f.header) f)
    unfolding ending held_after after_test
    held_on true = rw (calm, joins) refl
    held_on false = rw (calm, joins) refl

    added_joins : (output : List ℕ) → added false false m f output ≡ accepts j f output
    unfolding added bytes_of_all pasted laid
    added_joins output =
        let final = f.header.b_partial_final in
        rw (
          le-ltb 16383 f.bits p.passes_11,
          le-ltb (8 * length f.payload) f.bits p.passes_12,
          ends,
          none_displaced final,
          no_error final,
          held_on final,
          le-ltb (length output) 0 (omega arith),
        ) refl

-- what the channel holds after a chain's fragment with header h, with the message so far
abbrev after : RawBunchHeader → Message → Found Held
after h w = found (record { sequence = sequence_word h; reliable = h.b_reliable; finished = h.b_partial_final; message = w })

abbrev goes_to : Message → Fragment → List ℕ → Local
goes_to w f output = record { answer = accepted_plainly f; output = output; held = after f.header (joined_to w f) }

abbrev started : RawBunchHeader → Message
started h = message_of (header_words h) 0 []

starts : (f : Fragment) → Plain f → f.header.b_partial_initial ≡ true → (output : List ℕ) → added false false none f output ≡ goes_to (started f.header) f output
unfolding fate overlaps
starts f p i output = added_joins f p none none (rw (i, p.no_flag) (admitted_ends f p)) refl (rw i refl) (rw i refl) output

-- "reliability must agree"
same_reliable : (n : ℕ) (r : Bool) (h : RawBunchHeader) → follows n r h ≡ true → r ≡ h.b_reliable
unfolding follows continues
same_reliable n r h e = go r h.b_reliable e
  where
    go : (r b : Bool) → continues (n, bool_byte r) b (sequence_word h) ≡ true → r ≡ b
    go true true e = refl
    go false false e = refl
    go true false e = absurd (false≢true e)
    go false true e = absurd (false≢true e)

continues_on : (h : RawBunchHeader) (w : Message) (f : Fragment) → Plain f → h.b_partial_final ≡ false → f.header.b_partial_initial ≡ false
    → follows (sequence_word h) h.b_reliable f.header ≡ true → (output : List ℕ) → added false false (after h w) f output ≡ goes_to w f output
unfolding fate continued overlaps
continues_on h w f p more i next output =
    added_joins f p (after h w) (after h w) (rw (next, more, i, p.no_flag) (admitted_ends f p)) (rw i refl) (rw i refl) (rw i refl) output
    ∙ rw (same_reliable (sequence_word h) h.b_reliable f.header next) refl

-- ## Many fragments

-- a message with some fragments behind it
abbrev with : Message → List Fragment → Message
with w fs = message_of w.header (w.bits + joined_bits fs) (w.bytes ++ joined_bytes fs)

with_none : (w : Message) → w ≡ with w []
unfolding joined_bits joined_bytes
with_none w = let sum : w.bits + 0 ≡ w.bits = omega arith in rw (append-nil w.bytes, sum) refl

with_more : (w : Message) (f : Fragment) (fs : List Fragment) → with (joined_to w f) fs ≡ with w (f ∷ fs)
unfolding joined_bits joined_bytes
with_more w f fs =
    let sum : w.bits + f.bits + joined_bits fs ≡ w.bits + (f.bits + joined_bits fs) = omega arith in
    rw (sum, append_assoc w.bytes (payload_bytes f.bits f.payload) (joined_bytes fs)) refl

-- the message, finished, is all that is held
pub record Whole (x : Found Held) (w : Message) : Type 0 where
  pub holds : Held
  pub there : x ≡ found holds
  pub finished : holds.finished ≡ true
  pub says : holds.message ≡ w

-- some calls that add a chain's fragments, from what is held before them
pub record Joins (m : Found Held) (xs : List Call) (fs : List Fragment) (w : Message) : Type 0 where
  pub answers : answers_of (alone m xs) ≡ map accepted_plainly fs
  pub held : Whole (held_alone m xs) w

joins_next : (m : Found Held) (x : Call) (xs : List Call) (f : Fragment) (fs : List Fragment) (v w : Message) → x.act ≡ adding f → added false false m f x.output ≡ goes_to v f x.output
    → Joins (after f.header (joined_to v f)) xs fs w → Joins m (x ∷ xs) (f ∷ fs) w
unfolding alone held_alone locally
joins_next m x xs f fs v w act step rest =
    let here : by_itself m x ≡ goes_to v f x.output = rw act step in
    record { answers = rw (here, rest.answers) refl; held = rw here rest.held }

goes : (xs : List Call) (fs : List Fragment) → acts_of xs ≡ map adding fs → (h : RawBunchHeader) (w : Message) → GoesOn h fs → Each Plain fs → Joins (after h w) xs fs (with w fs)
unfolding alone held_alone GoesOn Each
goes [] [] e h w g p = record { answers = refl; held = record { holds = _; there = refl; finished = g; says = with_none w } }
goes [] (f ∷ fs) e h w g p = let z : ◌≡◌ {A = ℕ} 0 1 = cc in absurd (omega arith)
goes (x ∷ xs) [] e h w g p = let z : ◌≡◌ {A = ℕ} 0 1 = cc in absurd (omega arith)
goes (x ∷ xs) (f ∷ fs) e h w g p =
    let act : x.act ≡ adding f = cc in
    let more : acts_of xs ≡ map adding fs = cc in
    joins_next (after h w) x xs f fs w (with w (f ∷ fs)) act (continues_on h w f p.0 g.0 g.1 g.2 x.output)
    (rw (← with_more w f fs) (goes xs fs more f.header (joined_to w f) g.3 p.1))

-- the fragments joined, with the first one's header
abbrev pub whole : Fragment → List Fragment → Message
whole f fs = message_of (header_words f.header) (joined_bits (f ∷ fs)) (joined_bytes (f ∷ fs))

with_first : (f : Fragment) (fs : List Fragment) → with (joined_to (started f.header) f) fs ≡ whole f fs
unfolding joined_bits joined_bytes
with_first f fs = let sum : 0 + f.bits + joined_bits fs ≡ f.bits + joined_bits fs = omega arith in rw sum refl

pub chain_joins : (xs : List Call) (f : Fragment) (fs : List Fragment) → acts_of xs ≡ map adding (f ∷ fs) → Unbroken f fs → Joins none xs (f ∷ fs) (whole f fs)
unfolding Each
chain_joins [] f fs e u = let z : ◌≡◌ {A = ℕ} 0 1 = cc in absurd (omega arith)
chain_joins (y ∷ ys) f fs e u =
    let act : y.act ≡ adding f = cc in
    let more : acts_of ys ≡ map adding fs = cc in
    joins_next none y ys f fs (started f.header) (whole f fs) act (starts f u.plain.0 u.initial y.output)
    (rw (← with_first f fs) (goes ys fs more f.header (joined_to (started f.header) f) u.continuings u.plain.1))
