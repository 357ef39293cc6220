-- The Berkeley Ownership protocol, as its printed table: a row for each state that a cache may have a
-- block in, a column for each thing that a board needs, or sees another do on the bus.
use Rattle.std.specs.Prelude.{Bool, true, false, ◌&&◌, ◌≡◌}
use Rattle.spur_snoop.specs.declared.BlockState.{BlockState}
use Rattle.spur_snoop.specs.declared.BlockState.TheVariants.{Invalid, UnOwned, OwnedNonExclusive, OwnedExclusive}
use Rattle.spur_snoop.specs.declared.Need.{Need}
use Rattle.spur_snoop.specs.declared.Need.TheVariants.{Read, Write}
use Rattle.spur_snoop.specs.declared.BusWant.{BusWant}
use Rattle.spur_snoop.specs.declared.BusWant.TheVariants as want
use Rattle.spur_snoop.specs.declared.BusKind.{BusKind}
use Rattle.spur_snoop.specs.declared.BusKind.TheVariants.{ReadShared, ReadOwned, Claim, WriteBack}

-- what a board asks of the bus, for its own state of the block and what it needs
abbrev pub asked_of : BlockState → Need → BusWant
asked_of Invalid Read = want.ReadShared
asked_of Invalid Write = want.ReadOwned
asked_of UnOwned Read = want.Nothing
asked_of UnOwned Write = want.Claim
asked_of OwnedNonExclusive Read = want.Nothing
asked_of OwnedNonExclusive Write = want.Claim
asked_of OwnedExclusive Read = want.Nothing
asked_of OwnedExclusive Write = want.Nothing

-- what a board's own state becomes when it sees a transaction of another board on the block
abbrev pub snooped_of : BlockState → BusKind → BlockState
snooped_of Invalid ReadShared = Invalid
snooped_of Invalid ReadOwned = Invalid
snooped_of Invalid Claim = Invalid
snooped_of Invalid WriteBack = Invalid
snooped_of UnOwned ReadShared = UnOwned
snooped_of UnOwned ReadOwned = Invalid
snooped_of UnOwned Claim = Invalid
snooped_of UnOwned WriteBack = UnOwned
snooped_of OwnedNonExclusive ReadShared = OwnedNonExclusive
snooped_of OwnedNonExclusive ReadOwned = Invalid
snooped_of OwnedNonExclusive Claim = Invalid
snooped_of OwnedNonExclusive WriteBack = OwnedNonExclusive
snooped_of OwnedExclusive ReadShared = OwnedNonExclusive
snooped_of OwnedExclusive ReadOwned = Invalid
snooped_of OwnedExclusive Claim = Invalid
snooped_of OwnedExclusive WriteBack = OwnedExclusive

-- whether a board then supplies the words of the block
abbrev pub supplies : BlockState → BusKind → Bool
supplies Invalid ReadShared = false
supplies Invalid ReadOwned = false
supplies Invalid Claim = false
supplies Invalid WriteBack = false
supplies UnOwned ReadShared = false
supplies UnOwned ReadOwned = false
supplies UnOwned Claim = false
supplies UnOwned WriteBack = false
supplies OwnedNonExclusive ReadShared = true
supplies OwnedNonExclusive ReadOwned = true
supplies OwnedNonExclusive Claim = false
supplies OwnedNonExclusive WriteBack = false
supplies OwnedExclusive ReadShared = true
supplies OwnedExclusive ReadOwned = true
supplies OwnedExclusive Claim = false
supplies OwnedExclusive WriteBack = false

-- whether a block is there at all
abbrev pub is_alive : BlockState → Bool
is_alive Invalid = false
is_alive UnOwned = true
is_alive OwnedNonExclusive = true
is_alive OwnedExclusive = true

-- whether a board with a block in this state is its owner
abbrev pub is_owned : BlockState → Bool
is_owned Invalid = false
is_owned UnOwned = false
is_owned OwnedNonExclusive = true
is_owned OwnedExclusive = true

-- whether a block may be written without the bus
abbrev pub is_exclusive : BlockState → Bool
is_exclusive Invalid = false
is_exclusive UnOwned = false
is_exclusive OwnedNonExclusive = false
is_exclusive OwnedExclusive = true

-- whether a transaction asks for the words of the block
abbrev pub reads : BusKind → Bool
reads ReadShared = true
reads ReadOwned = true
reads Claim = false
reads WriteBack = false

-- the words are supplied where they are asked for, by the owner alone
abbrev pub OwnersSupplyReads : Type 0
OwnersSupplyReads = (state : BlockState) (kind : BusKind) → supplies state kind ≡ (is_owned state && reads kind)
