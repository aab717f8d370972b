-- What the test of the lent tables shows.
use Prim.Native.Nat.{ℕ, ◌≤◌}
use mathlib.Core.Path.{◌≡◌}
use mathlib.Core.Bool.{true, ◌&&◌}
use lib.Dec.{leb}
use lib.ListN.{take}
use borrow.Author.Tests.{leb-true}
use Rattle.tables.specs.Columns.{ascending}
use Rattle.tables.proofs.Ascending.{both}
use Rattle.types.specs.Types.{most_channels}
use Rattle.packet_reading.specs.Memory.{ReaderMemory, tables_fitting, tables_fit, tables_sound}
use Rattle.packet_reading.specs.State.{TablesSound}

pub record Rooms (limit a b c d e : ℕ) : Type 0 where
  pub few : limit ≤ most_channels
  pub first : limit ≤ a
  pub second : limit ≤ b
  pub third : limit ≤ c
  pub fourth : limit ≤ d
  pub fifth : limit ≤ e

pub rooms : (limit a b c d e : ℕ) → tables_fitting limit a b c d e ≡ true → Rooms limit a b c d e
rooms limit a b c d e h =
    let v = both _ (leb limit e) h in
    let w = both _ (leb limit d) v.0 in
    let x = both _ (leb limit c) w.0 in
    let y = both _ (leb limit b) x.0 in
    let z = both _ (leb limit a) y.0 in
    record {
      few = leb-true limit most_channels z.0;
      first = leb-true limit a z.1;
      second = leb-true limit b y.1;
      third = leb-true limit c x.1;
      fourth = leb-true limit d w.1;
      fifth = leb-true limit e v.1;
    }

-- the part of the test before the channels are looked at
pub record Live (limit s p a b c d e : ℕ) : Type 0 where
  pub rooms : Rooms limit a b c d e
  pub sequences : s ≤ limit
  pub partials : p ≤ limit

pub lives : (limit s p a b c d e : ℕ) → (tables_fitting limit a b c d e && leb s limit && leb p limit) ≡ true → Live limit s p a b c d e
lives limit s p a b c d e h =
    let v = both _ (leb p limit) h in
    let w = both _ (leb s limit) v.0 in
    record { rooms = rooms limit a b c d e w.0; sequences = leb-true s limit w.1; partials = leb-true p limit v.1 }

pub state : (limit s p : ℕ) (m : ReaderMemory) → tables_sound limit s p m ≡ true → TablesSound limit s p m
unfolding tables_sound tables_fit
state limit s p m h =
    let v = both _ (ascending (take s m.sequence_channels) && ascending (take p m.partial_channels)) h in
    let l = lives limit s p _ _ _ _ _ v.0 in
    let a = both (ascending (take s m.sequence_channels)) (ascending (take p m.partial_channels)) v.1 in
    record {
      sequences = record { few = l.rooms.few; live_fits = l.sequences; room = l.rooms.first; ascends = a.0 };
      numbers = l.rooms.second;
      partials = record { few = l.rooms.few; live_fits = l.partials; room = l.rooms.third; ascends = a.1 };
      partial_sequences = l.rooms.fourth;
      partial_reliables = l.rooms.fifth;
    }
