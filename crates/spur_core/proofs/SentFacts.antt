-- A world may go to another thread, where its processors and its swap object may, and so may what its boards share.
use denote.RattleType.{RattleType}
use denote.Param.Send.{IsSend}
use denote.Param.SendFields.{as_row_send, declared_send}
use Rattle.std.proofs.Crossing.{Vec-send, crosses}
use Rattle.std.specs.contracts.alloc.Global as heap_type
use Rattle.std.specs.contracts.impls.GlobalAllocator.TheImpl.{ghosts}
use Rattle.std.specs.contracts.snapshot.Snapshot as snapshot_type
use Rattle.std.specs.contracts.vec.Vec as vector_type
use Rattle.spur_loader.specs.contracts.opening.Opening as opening_type
use Rattle.spur_board.specs.contracts.board.Board as board_type
use Rattle.spur_board.proofs.board.Board.TheSendSync.{the_send as board_send}
use Rattle.spur_pager.proofs.store.Store.TheSendSync.{the_send as store_send}
use Rattle.spur_core.specs.contracts.part.Bus as bus_type
use Rattle.spur_core.specs.contracts.world.Beginning as beginning_type
use Rattle.spur_core.specs.contracts.world.World as world_type

-- a value that contracts alone see
snapshot_send : (X : RattleType) → IsSend (snapshot_type.the_row X)
snapshot_send X = search crosses

pub beginning_send : (C B : RattleType) → IsSend C → IsSend B → IsSend (beginning_type.the_row C B)
beginning_send C B c b =
    declared_send (beginning_type.the_type C B) (
      as_row_send (snapshot_type.the_field opening_type.the_row) (snapshot_send opening_type.the_row),
      (as_row_send (snapshot_type.the_field (vector_type.the_row C heap_type.the_row ghosts)) (snapshot_send (vector_type.the_row C heap_type.the_row ghosts)), (as_row_send (snapshot_type.the_field B) (snapshot_send B), tt)),
    )

pub world_send : (C B : RattleType) → IsSend C → IsSend B → IsSend (world_type.the_row C B)
world_send C B c b =
    declared_send (world_type.the_type C B) (
      store_send B b,
      (as_row_send (vector_type.the_field (board_type.the_row C) heap_type.the_row ghosts) (Vec-send (board_type.the_row C) (board_send C c)), (beginning_send C B c b, tt)),
    )

pub bus_send : (C B : RattleType) → IsSend C → IsSend B → IsSend (bus_type.the_row C B)
bus_send C B c b = declared_send (bus_type.the_type C B) (store_send B b, (beginning_send C B c b, tt))
