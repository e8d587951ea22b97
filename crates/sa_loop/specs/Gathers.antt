-- What was gathered of a run, member by member.
use Rattle.std.specs.Prelude.{ℕ, nat_lt, Option, Some, None, slice_get, if◌then◌else◌}
use Rattle.sa_alloc.specs.Layouts.{Layout}
use Rattle.sa_alloc.specs.StoreValues.{StoreValue}
use Rattle.sa_plain.specs.Plains.{PlainValue}
use Rattle.sa_call.specs.declared.reply.Reply.{Reply}
use Rattle.sa_hall.specs.Contents.{Contents}
use Rattle.sa_loop.specs.declared.act.Act.{Act}

-- the task and the number of an act, and its reply
abbrev pub act_pair : Act → ℕ × ℕ
act_pair a = (a.task, a.number)

abbrev pub act_reply : Act → Reply
act_reply a = a.outcome.reply

abbrev pub layout_of : StoreValue → Layout
layout_of s = s.contents.layout

-- the layout of a descriptor of this number, where there is one
abbrev pub store_at : ℕ → (ℕ → Contents) → ℕ → Option Layout
store_at count holds number = if nat_lt number count then Some (holds number).layout else None

-- the plain array of a number among those of a descriptor of a number, where there is one
abbrev pub plain_in : ℕ → (ℕ → Contents) → ℕ → ℕ → Option PlainValue
plain_in count holds number k = if nat_lt number count then slice_get (holds number).plains k else None
