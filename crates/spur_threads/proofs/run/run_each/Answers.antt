use mathlib.Core.List.{[], ◌∷◌}
use mir.Syntax.{named, ty_int, ty_struct, tcons, tnil, w32}
use denote.Exit.{yes}
use denote.Param.{param}
use denote.Param.Send.{arg_send, param_send, shr_sync}
use denote.Param.SendFields.{as_row_sync, declared_sync}
use denote.RattleType.{RattleType}
use denote.Struct.Field.{row_field, shr_ref_field}
use denote.Struct.Tuple.{type_at}
use Rattle.std.specs.contracts.sync.atomic.AtomicBool as flag_type
use Rattle.spur_board.specs.contracts.board.Board as board_type
use Rattle.spur_board.proofs.board.Board.TheSendSync.{the_send as board_send}
use Rattle.spur_core.specs.contracts.part.Bus as bus_type
use Rattle.spur_core.specs.contracts.world.Beginning as beginning_type
use Rattle.spur_core.proofs.SentFacts.{bus_send}
use Rattle.spur_turns.proofs.seat.BoardSeat.TheSendSync.{the_send as seat_send}
use Rattle.spur_turns.proofs.turns.Turns.TheSendSync.{the_sync as turns_sync}
use Rattle.spur_threads.specs.contracts.sharing.Sharing as sharing_type
use Rattle.spur_threads.specs.contracts.sharing.SharingPact.TheImpl.{ghosts}
use Rattle.spur_threads.proofs.progress.FirstProgress.TheSendSync.{the_sync as first_sync}
use Rattle.spur_threads.proofs.Sent.{flag_sync, row_of}
use Rattle.spur_threads.proofs.run.run_each.Goals as goal

-- a seat may go to a thread, where what the boards share may, and a board
pub for_each_mut-requires-send-T : goal.for_each_mut-requires-send-T
for_each_mut-requires-send-T g c κs within =
    let of_cpu = param 0 g.row.C in
    let of_swap = param 1 g.row.B in
    let bus = bus_send of_cpu of_swap c.type_bounds.send-C c.type_bounds.send-B in
    let board = board_send of_cpu c.type_bounds.send-C in
    let seat =
    seat_send (sharing_type.the_row of_cpu of_swap) (bus_type.the_row of_cpu of_swap) (board_type.the_row of_cpu) (beginning_type.the_row of_cpu of_swap)
    (ghosts of_cpu of_swap g.C.Cpu g.C.Cpu-dict g.B.Backing g.B.Backing-dict g.C.Destruct-dict) bus board in
    let seat_fields = ty_struct [] (tcons (ty_int w32) (tcons (ty_struct [] (tcons (ty_struct [] tnil) tnil)) tnil)) in
    param_send 1 _ (arg_send seat_fields yes _ seat)

-- the closure holds five references, to what may be shared
pub for_each_mut-requires-sync-F : goal.for_each_mut-requires-sync-F
for_each_mut-requires-sync-F g c κs within =
    let of_cpu = param 0 g.row.C in
    let of_swap = param 1 g.row.B in
    let bus = bus_send of_cpu of_swap c.type_bounds.send-C c.type_bounds.send-B in
    let board = board_send of_cpu c.type_bounds.send-C in
    let turns =
    turns_sync (sharing_type.the_row of_cpu of_swap) (bus_type.the_row of_cpu of_swap) (board_type.the_row of_cpu) (beginning_type.the_row of_cpu of_swap)
    (ghosts of_cpu of_swap g.C.Cpu g.C.Cpu-dict g.B.Backing g.B.Backing-dict g.C.Destruct-dict) bus board in
    let of_runtime : RattleType = (shr_ref_field (record { mir = named 6; lft = κs.1.1.1.1.1.1.0 }) (param 3 g.row.R) tt).row in
    let of_turns : RattleType = (shr_ref_field (record { mir = named 7; lft = κs.1.1.1.1.1.1.1.0 }) (row_of turns) tt).row in
    let of_flag : RattleType = (shr_ref_field (record { mir = named 8; lft = κs.1.1.1.1.1.1.1.1.0 }) flag_type.the_row tt).row in
    let of_gate : RattleType = (shr_ref_field (record { mir = named 9; lft = κs.1.1.1.1.1.1.1.1.1.0 }) (param 2 g.row.G) tt).row in
    let of_first : RattleType = (shr_ref_field (record { mir = named 10; lft = κs.1.1.1.1.1.1.1.1.1.1.0 }) (row_of first_sync) tt).row in
    let sync =
    declared_sync (type_at [] (of_runtime ∷ of_turns ∷ of_flag ∷ of_gate ∷ of_first ∷ [])) (
      as_row_sync (row_field of_runtime) (shr_sync _ _ (param 3 g.row.R) c.type_bounds.sync-R),
      (
        as_row_sync (row_field of_turns) (shr_sync _ _ (row_of turns) turns),
        (
          as_row_sync (row_field of_flag) (shr_sync _ _ flag_type.the_row flag_sync),
          (
            as_row_sync (row_field of_gate) (shr_sync _ _ (param 2 g.row.G) c.type_bounds.sync-G),
            (as_row_sync (row_field of_first) (shr_sync _ _ (row_of first_sync) first_sync), tt),
          ),
        ),
      ),
    ) in
    record { shared = λ x b o κ. sync.shared x b o κ }
