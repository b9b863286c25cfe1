-- What a session of a control holds, and all that it has done, may go to another thread.
use Rattle.std.proofs.Crossing.{crosses}
use denote.RattleType.{RattleType}
use denote.Param.Send.{IsSend, enum_send, sendable, struct_send}
use denote.Enum.Declared as enum
use denote.Struct.Declared.{shape}
use Rattle.boxcar.proofs.slot.Written.TheSendSync as written
use Rattle.http_server.proofs.log.Log.TheSendSync as log
use Rattle.af_role.specs.contracts.access.AccessControl as access
use Rattle.af_policy.specs.contracts.user.User as user
use Rattle.af_policy.specs.contracts.change.RoleInput as role_input
use Rattle.af_policy.specs.contracts.change.UserPatch as user_patch
use Rattle.af_policy.specs.contracts.change.DagAccess as dag_access
use Rattle.af_policy.specs.contracts.change.Change as change
use Rattle.af_audit.specs.contracts.entry.Entry as entry
use Rattle.af_board.specs.contracts.mark.Mark as mark
use Rattle.af_board.specs.contracts.mark.Mark.TheInside as mark_inside
use Rattle.af_board.specs.contracts.receipt.Receipt as receipt
use Rattle.af_board.specs.contracts.spent.Spent as spent
use Rattle.af_word.proofs.pass.Pass.TheSendSync as pass
use Rattle.af_tally.specs.contracts.witness.Witness as witness
use Rattle.af_tally.proofs.witness.Witness.TheSendSync as witnessed
use Rattle.af_plane.specs.contracts.grounds.Grounds as grounds
use Rattle.af_plane.specs.contracts.session.Session as session
use Rattle.af_plane.specs.declared.named.Named as named
use Rattle.af_plane.specs.contracts.control_session.ControlSession as control_session
use Rattle.af_plane.specs.contracts.control_session.ControlSession.TheInside as control_session_inside
use Rattle.af_plane.specs.contracts.ended_session.EndedSession as ended_session
use Rattle.af_plane.specs.contracts.ended_session.EndedSession.TheInside as ended_session_inside
use Rattle.af_plane.specs.contracts.session_log.SessionLog as session_log

pub role_input_send : IsSend (role_input.the_field).row
role_input_send = search (sendable, crosses) depth 60 fits 100000

pub user_send : IsSend user.the_row
user_send = search (sendable, crosses) depth 60 fits 100000

pub user_patch_send : IsSend (user_patch.the_field).row
user_patch_send = search (sendable, crosses) depth 60 fits 100000

pub access_send : IsSend access.the_row
access_send = search (sendable, crosses) depth 60 fits 100000

pub dag_access_send : IsSend (dag_access.the_field).row
dag_access_send = search (sendable, crosses, access_send) depth 60 fits 100000

pub change_send : IsSend (change.the_field).row
change_send = enum_send (enum.shape change.the_type) (
  (search (sendable, role_input_send), tt),
  (
    (search (sendable, role_input_send), tt),
    (
      (search (sendable, crosses) depth 60, tt),
      (
        (search (sendable, user_send), tt),
        (
          (search (sendable, user_patch_send), tt),
          (
            (search (sendable, crosses) depth 60, tt),
            (
              (search (sendable, dag_access_send), tt),
              tt,
            ),
          ),
        ),
      ),
    ),
  ),
)

pub mark_inside_send : IsSend (mark_inside.the_field).row
mark_inside_send = struct_send (shape mark_inside.the_type) (search sendable, (search (sendable, crosses, written.the_send) depth 60 fits 100000, tt))

pub mark_send : IsSend mark.the_row
mark_send = search (sendable, mark_inside_send) depth 60 fits 100000

pub receipt_send : IsSend receipt.the_row
receipt_send = search (sendable, crosses, mark_send, change_send) depth 60 fits 100000

pub spent_send : IsSend spent.the_row
spent_send = search (sendable, crosses, written.the_send) depth 60 fits 100000

pub witness_send : IsSend (witness.the_row entry.the_row)
witness_send = search (sendable, crosses, witnessed.the_send) depth 60 fits 100000

pub grounds_send : IsSend (grounds.the_field).row
grounds_send = search (sendable, crosses, mark_send, receipt_send, spent_send) depth 60 fits 100000

pub session_send : IsSend session.the_row
session_send = search (sendable, crosses, pass.the_send, witness_send, grounds_send) depth 60 fits 100000

-- what it has done and the name take no memory, so whatever they are may go along
pub session_log_send : IsSend (session_log.the_field).row
session_log_send =
    struct_send (shape session_log.the_type) (
      (search (sendable, crosses, log.the_send) depth 60 fits 100000),
      (
        (search (sendable, crosses, log.the_send) depth 60 fits 100000),
        (
          (search (sendable, crosses, log.the_send) depth 60 fits 100000),
          (
            (search (sendable, crosses, log.the_send) depth 60 fits 100000),
            (
              (search (sendable, crosses, log.the_send) depth 60 fits 100000),
              (
                (search (sendable, crosses, log.the_send) depth 60 fits 100000),
                (
                  (search (sendable, crosses, log.the_send) depth 60 fits 100000),
                  (
                    (search (sendable, crosses, log.the_send) depth 60 fits 100000),
                    (
                      (search (sendable, crosses, log.the_send) depth 60 fits 100000),
                      (
                        (search (sendable, crosses, log.the_send) depth 60 fits 100000),
                        tt,
                      ),
                    ),
                  ),
                ),
              ),
            ),
          ),
        ),
      ),
    )

pub control_session_inside_send : (N : RattleType) (ghosts : named.Ghosts N.Denot) → IsSend (control_session_inside.the_field N ghosts).row
control_session_inside_send N ghosts = struct_send (shape (control_session_inside.the_type N ghosts)) (session_send, (session_log_send, (search sendable, tt)))

pub control_session_send : (N : RattleType) (ghosts : named.Ghosts N.Denot) → IsSend (control_session.the_row N ghosts)
control_session_send N ghosts = search (sendable, control_session_inside_send) depth 60 fits 100000

-- a session that is over may go too
pub ended_session_inside_send : IsSend (ended_session_inside.the_field).row
ended_session_inside_send =
    struct_send (shape ended_session_inside.the_type) (
      pass.the_send,
      (witness_send, ((search (sendable, crosses, log.the_send) depth 60 fits 100000), (session_log_send, tt))),
    )

pub ended_session_send : IsSend ended_session.the_row
ended_session_send = search (sendable, ended_session_inside_send) depth 60 fits 100000
