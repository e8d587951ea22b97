use Rattle.std.proofs.Common.{◌≡◌, ℕ, List, ◌+◌, ◌-◌, ◌++◌, length, map, drop, Some, Bor, refl, sym, ap, ◌∙◌, arith, append-nil}
use Rattle.std.specs.List.{slice_get}
use Rattle.std.specs.Option.{option_map}
use Rattle.std.proofs.Math.ListN.{length-map}
use Rattle.std.proofs.lemmas.List.{drop_all}
use Rattle.std.proofs.lemmas.Option.{slice_get-map, slice_get_read}
use Rattle.sa_call.specs.declared.reply.Reply.{Reply}
use Rattle.sa_report.specs.Reports.{call_lines, call_line, memory_line}
use Rattle.sa_report.proofs.ReportLemmas.{call_lines-marked, call_lines-next, call_lines-none}
use Rattle.sa_report.proofs.StepLemmas.{onward}
use Rattle.sa_report.proofs.tasks.push_calls.Goals as goal

pub loop-call-preserved-then-marked : goal.loop-call-preserved-then-marked
loop-call-preserved-then-marked g c =
    let k = c.loop-call.call in
    let n = c.args.calls in
    let marked = g.H.Gathered.marks c.args.from.now c.args.task in
    let replies : List Reply = map (λ (b : Bor Reply). b.now) c.args.replies.now in
    let later = drop c.loop-call.next replies in
    onward c.push_memory_line.new.out.items c.loop-call.out.items (memory_line k) (call_lines marked (k + 1) (n - (k + 1)) later) (call_lines marked k (n - k) later) (c.args.out.now.items ++ call_lines marked 0 n replies)
    c.in_ok-push_memory_line.ensures (call_lines-marked marked k n later c.loop-call-test.true (sym c.marked.ensures ∙ c.if-marked.true)) c.loop-call.invariant

pub returns-then-next-replies : goal.returns-then-next-replies
returns-then-next-replies g c =
    let k = c.loop-call.call in
    let marked = g.H.Gathered.marks c.args.from.now c.args.task in
    let replies : List Reply = map (λ (b : Bor Reply). b.now) c.args.replies.now in
    let long = length-map c.args.replies.now (λ (b : Bor Reply). b.now) in
    let past = drop_all c.loop-call.next replies (omega arith) in
    let none = call_lines-none marked k (c.args.calls - k) (drop c.loop-call.next replies) (sym c.marked.ensures ∙ c.if-marked.false) past in
    sym (append-nil c.loop-call.out.items) ∙ (ap (λ (bytes : List ℕ). c.loop-call.out.items ++ bytes) (sym none) ∙ c.loop-call.invariant)

pub loop-call-preserved : goal.loop-call-preserved
loop-call-preserved g c =
    let k = c.loop-call.call in
    let n = c.args.calls in
    let next = c.loop-call.next in
    let marked = g.H.Gathered.marks c.args.from.now c.args.task in
    let refs : List (Bor Reply) = c.args.replies.now in
    let replies : List Reply = map (λ (b : Bor Reply). b.now) refs in
    let reply : Reply = c.index-replies-next.result.now in
    let got : slice_get replies next ≡ Some reply = slice_get-map (λ (b : Bor Reply). b.now) refs next ∙ ap (option_map (λ (b : Bor Reply). b.now)) (slice_get_read refs (length refs) next c.index-replies-next.result refl (omega arith) c.index-replies-next.is) in
    onward c.push_call_line.new.out.items c.loop-call.out.items (call_line k reply) (call_lines marked (k + 1) (n - (k + 1)) (drop (next + 1) replies)) (call_lines marked k (n - k) (drop next replies)) (c.args.out.now.items ++ call_lines marked 0 n replies)
    c.in_ok-push_call_line.ensures (call_lines-next marked k n next replies reply c.loop-call-test.true (sym c.marked.ensures ∙ c.if-marked.false) got) c.loop-call.invariant
