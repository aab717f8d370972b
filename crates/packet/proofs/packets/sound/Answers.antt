-- The numbers first, which say that the passes stay within the columns; then the passes.
use Prim.Native.Nat.{◌≤◌}
use mathlib.Core.Path.{refl, sym}
use native.Mathlib.Omega.{arith}
use lib.ListN.{length}
use Rattle.packet_reading.specs.Memory.{tables_fit, tables_sound}
use Rattle.packet.proofs.Soundness.{lives}
use Rattle.packet.proofs.packets.sound.Goals as goal

pub ascending-sequences-requires : goal.ascending-sequences-requires
ascending-sequences-requires c =
    let a = c.args in
    let l = lives a.reader.max_channels a.reader.live_sequences a.reader.live_partials (length a.columns.now.sequence_channels.now) (length a.columns.now.sequence_numbers.now) (length a.columns.now.partial_channels.now) (length a.columns.now.partial_sequences.now) (length a.columns.now.partial_reliables.now) (rw c.fitting-fit.ensures at c.if-fit-reader.true) in
    let within : a.reader.live_sequences ≤ length a.columns.now.sequence_channels.now = omega (arith, l.rooms.first, l.sequences) in
    within

pub ascending-partials-requires : goal.ascending-partials-requires
ascending-partials-requires c =
    let a = c.args in
    let l = lives a.reader.max_channels a.reader.live_sequences a.reader.live_partials (length a.columns.now.sequence_channels.now) (length a.columns.now.sequence_numbers.now) (length a.columns.now.partial_channels.now) (length a.columns.now.partial_sequences.now) (length a.columns.now.partial_reliables.now) (rw c.fitting-fit.ensures at c.if-fit-reader.true) in
    let within : a.reader.live_partials ≤ length a.columns.now.partial_channels.now = omega (arith, l.rooms.third, l.partials) in
    within

pub returns-then-sequences-partials-clause-there :
    goal.returns-then-sequences-partials-clause-there
unfolding tables_sound tables_fit
returns-then-sequences-partials-clause-there c =
    rw (sym c.fitting-fit.ensures, c.if-fit-reader.true, sym c.ascending-sequences.ensures, sym c.ascending-partials.ensures) c.if-sequences-partials.true

pub returns-else-sequences-partials-clause-broken :
    goal.returns-else-sequences-partials-clause-broken
unfolding tables_sound tables_fit
returns-else-sequences-partials-clause-broken c =
    (rw (sym c.fitting-fit.ensures, c.if-fit-reader.true, sym c.ascending-sequences.ensures, sym c.ascending-partials.ensures) c.if-sequences-partials.false, refl)

pub returns-else-fit-reader-clause-broken : goal.returns-else-fit-reader-clause-broken
unfolding tables_sound tables_fit
returns-else-fit-reader-clause-broken c = (rw (sym c.fitting-fit.ensures, c.if-fit-reader.false), refl)
