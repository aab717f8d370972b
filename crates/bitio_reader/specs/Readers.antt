-- A reader's place as a window, and what a read or a copy leaves of a reader.
use Rattle.std.specs.Prelude.{◌≡◌, ℕ, List, length, Result}
use Rattle.bitio_window.specs.declared.Window.{Window}
use Rattle.bitio_window.specs.declared.BitError.{BitError}
use Rattle.bitio_window.specs.Places.{packet_bit}
use Rattle.bitio_window.specs.Parse.{Answer, Parse}
use Rattle.bitio_window.specs.Answers.{answer}
use Rattle.bitio_window.specs.Copies.{copy_bits, copy_leaves}
use Rattle.bitio_reader.specs.declared.BitReader.{BitReader}

abbrev pub window_of : BitReader → Window
window_of r = r.window

-- The read p at a reader's place answers a, in the paper's terms, and leaves the reader over the same packet where p says.
abbrev pub Moved : {A B : Type 0} → (B → Window → Answer A) → Parse A → BitReader → B → BitReader → Type 0
Moved of p before a after = (of a after.window ≡ p before.packet.now before.window) × (after.packet ≡ before.packet)

-- Copying n bits from a reader's place into a target answers a, moves the reader, and leaves what the copy leaves in the target.
abbrev pub Copied : ℕ → BitReader → List ℕ → Result (Unit {0}) BitError → BitReader → List ℕ → Type 0
Copied n before target a after left =
    Moved answer (copy_bits (length target) n) before a after
    × (left ≡ copy_leaves (answer a after.window) target before.packet.now (packet_bit before.window).0 n)
