-- What an act says, as plain data.
use Rattle.std.specs.Prelude.{ℕ, List}
use Rattle.sa_plain.specs.Items.{items_of}
use Rattle.sa_call.specs.declared.call.Call.{Call}
use Rattle.sa_call.specs.declared.operands.Operands.{Operands}
use Rattle.sa_call.specs.declared.reply.Outcome.{Outcome}
use Rattle.sa_call.specs.declared.reply.Reply.{Reply}
use Rattle.sa_call.specs.declared.reply.Reply.TheVariants as reply
use Rattle.sa_call.specs.Decls.{Declared}
use Rattle.sa_call.specs.Told.{parts_told}
use Rattle.sa_journal.specs.Said.{Said, ReplySaid, DoneSaid, ShownSaid, SizedSaid, PicturedSaid, RefusedSaid}
use Rattle.sa_loop.specs.declared.act.Act.{Act}
use Rattle.sa_loop.specs.Writes.{writes_told}

abbrev pub reply_said : Reply → ReplySaid
reply_said reply.Done = DoneSaid
reply_said (reply.Shown items) = ShownSaid (items_of items)
reply_said (reply.Sized stats) = SizedSaid stats
reply_said (reply.Pictured p) = PicturedSaid p.entries p.arena
reply_said (reply.Refused code at) = RefusedSaid code at

-- what a call with these locks says, by what it read and by what came of it
abbrev pub said_by : Declared → ℕ → ℕ → List ℕ → Call → Operands → List ℕ → Outcome → Said
said_by decls task number locks call read weights outcome = record {
  task = task;
  call = number;
  locks = locks;
  parts = parts_told decls call read weights;
  writes = writes_told decls call.out outcome.results;
  reply = reply_said outcome.reply;
}

-- what an act says
abbrev pub act_said : Act → Said
act_said a = said_by a.decls.now a.task a.number a.locks a.body.now a.read a.weights a.outcome
