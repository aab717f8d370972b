-- "A position counted from the window's first bit and one counted from the packet's first bit are separate quantities"
use Rattle.std.specs.Prelude.{◌+◌}
use Rattle.bitio_window.specs.declared.PacketBit.{PacketBit}
use Rattle.bitio_window.specs.declared.Window.{Window}

-- where the reader stands, counted from the packet's first bit
abbrev pub packet_bit : Window → PacketBit
packet_bit w = record { 0 = w.start.0 + w.position.0 }
