-- Many calls one after the other, and each channel's own among them: what demand 3's sentences speak of.
use Rattle.std.specs.Prelude.{ℕ, ◌+◌, ◌≤◌, ◌≡◌, Bool, true, false, ◌||◌, cond, List, [], ◌∷◌, eqb, length}
use Rattle.tables.specs.Tables.{Found, get}
use Rattle.words.specs.Range.{InRange}
use Rattle.bunch_judging.specs.Held.{Held}
use Rattle.bunch_held.specs.declared.Accumulator.{Accumulator}
use Rattle.bunch_held.specs.Memory.{HeldMemory, accumulator_of}
use Rattle.bunch_held.specs.Steps.{Act, adding, taking, retiring, BunchAnswer}
use Rattle.bunch_held.specs.Calls.{held_by, BunchReply, called}

-- "Give each channel its own list of calls: add a fragment, take a finished message, retire", each with "the same arguments and the
-- same other lent room": the payload is the fragment's, the output stands beside it
pub record Call : Type 0 where
  pub channel : ℕ
  pub act : Act
  pub output : List ℕ

-- what a call is compared by: "the same answer and output bytes"
pub record Said : Type 0 where
  pub channel : ℕ
  pub answer : BunchAnswer
  pub output : List ℕ

-- the accumulator, and the memory that is lent to it
pub record Lent : Type 0 where
  pub accumulator : Accumulator
  pub memory : HeldMemory

-- "Start with an empty accumulator", in any memory
abbrev pub empty_lent : ℕ → ℕ → HeldMemory → Lent
empty_lent active buffered m = record { accumulator = accumulator_of active buffered 0 0; memory = m }

-- what a channel holds
abbrev pub held_on : ℕ → Lent → Found Held
held_on c l = get c (held_by l.accumulator l.memory)

abbrev pub reply_to : Lent → Call → BunchReply
reply_to l x = called l.accumulator l.memory x.channel x.act x.output

abbrev pub next : Lent → Call → Lent
next l x = let r = reply_to l x in record { accumulator = r.accumulator; memory = r.memory }

-- "Each call finds table and arena as the call before left them"
unfoldable pub said : Lent → List Call → List Said
said l [] = []
said l (x ∷ xs) = let r = reply_to l x in record { channel = x.channel; answer = r.answer; output = r.output } ∷ said (next l x) xs

unfoldable pub lent_after : Lent → List Call → Lent
lent_after l [] = l
lent_after l (x ∷ xs) = lent_after (next l x) xs

-- those of one channel, in their order
unfoldable pub calls_of : ℕ → List Call → List Call
calls_of c [] = []
calls_of c (x ∷ xs) = cond (eqb c x.channel) (x ∷ calls_of c xs) (calls_of c xs)

unfoldable pub said_of : ℕ → List Said → List Said
said_of c [] = []
said_of c (y ∷ ys) = cond (eqb c y.channel) (y ∷ said_of c ys) (said_of c ys)

-- ## What is asked of the calls

unfoldable pub Each : {A : Type 0} → (A → Type 0) → List A → Type 0
Each P [] = Unit {0}
Each P (x ∷ xs) = P x × Each P xs

unfoldable pub is_in : ℕ → List ℕ → Bool
is_in c [] = false
is_in c (d ∷ ds) = eqb c d || is_in c ds

-- "the channels": a call is to one of them
abbrev pub Among : List ℕ → Call → Type 0
Among cs x = is_in x.channel cs ≡ true

-- what the types say: each number of an added fragment's header is within its field's type
abbrev pub ActInRange : Act → Type 0
ActInRange (adding f) = InRange f.header
ActInRange taking = Unit {0}
ActInRange retiring = Unit {0}

abbrev pub CallInRange : Call → Type 0
CallInRange x = ActInRange x.act

-- "all payload bits of all calls together"
abbrev pub payload_of : Act → ℕ
payload_of (adding f) = f.bits
payload_of taking = 0
payload_of retiring = 0

unfoldable pub payloads : List Call → ℕ
payloads [] = 0
payloads (x ∷ xs) = payload_of x.act + payloads xs

-- "If the channels number no more than the active limit, and all payload bits of all calls together fit the buffered limit"
pub record WithinLimits (active buffered : ℕ) (xs : List Call) : Type 0 where
  pub channels : List ℕ
  pub few : length channels ≤ active
  pub among : Each (Among channels) xs
  pub bits : payloads xs ≤ buffered
  -- no limit: true of every call that code can make
  pub in_range : Each CallInRange xs
