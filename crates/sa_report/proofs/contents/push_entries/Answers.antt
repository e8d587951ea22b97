use Rattle.std.proofs.Common.{◌++◌, [], get_or, List, sym, ap, ◌∙◌, arith}
use Rattle.sa_text.specs.declared.value.Value.{Value}
use Rattle.sa_alloc.specs.Copies.{value_seen}
use Rattle.sa_plain.specs.Written.{value_bytes}
use Rattle.sa_loop.specs.Runs.{strings_in}
use Rattle.sa_loop.proofs.StepLemmas.{length-strings}
use Rattle.sa_report.proofs.ContentLemmas.{loaded, no-entries, first-entry, entry-written, all-entries}
use Rattle.sa_report.proofs.contents.push_entries.Goals as goal

pub returns-then-count-eq0 : goal.returns-then-count-eq0
returns-then-count-eq0 c =
    let l = c.args.store.now.contents.layout in
    let values : List Value = get_or (strings_in l) c.args.index [] in
    let long = length-strings l c.args.index c.requires c.lengths.ensures.sound.entries in
    let count = ap (λ ns. get_or ns c.args.index 0) c.lengths.ensures.lengths in
    no-entries c.args.out.now.items values (omega arith)

pub loop-place-init : goal.loop-place-init
loop-place-init c =
    let l = c.args.store.now.contents.layout in
    let values : List Value = get_or (strings_in l) c.args.index [] in
    let long = length-strings l c.args.index c.requires c.lengths.ensures.sound.entries in
    let count = ap (λ ns. get_or ns c.args.index 0) c.lengths.ensures.lengths in
    let value = loaded l c.args.index 0 c.load.result c.requires (omega arith) c.lengths.ensures.sound.entries c.load.ensures in
    c.in_ok-push_seen.ensures ∙ ap (λ bytes. c.args.out.now.items ++ bytes) (ap value_bytes value ∙ sym (first-entry values (omega arith)))

pub loop-place-preserved : goal.loop-place-preserved
loop-place-preserved c =
    let l = c.args.store.now.contents.layout in
    let values : List Value = get_or (strings_in l) c.args.index [] in
    let place = c.loop-place.place in
    let long = length-strings l c.args.index c.requires c.lengths.ensures.sound.entries in
    let count = ap (λ ns. get_or ns c.args.index 0) c.lengths.ensures.lengths in
    let value = loaded l c.args.index place c.load-in-loop-place.result c.requires (omega arith) c.lengths.ensures.sound.entries c.load-in-loop-place.ensures in
    entry-written c.push_seen-in-loop-place.new.out.items c.push_bytes.new.out.items c.loop-place.out.items c.args.out.now.items (value_seen c.load-in-loop-place.result) values place
    c.in_ok-push_seen-2.ensures c.in_ok-push_bytes.ensures c.loop-place.invariant value (omega arith) (omega arith)

pub returns : goal.returns
returns c =
    let l = c.args.store.now.contents.layout in
    let values : List Value = get_or (strings_in l) c.args.index [] in
    let long = length-strings l c.args.index c.requires c.lengths.ensures.sound.entries in
    let count = ap (λ ns. get_or ns c.args.index 0) c.lengths.ensures.lengths in
    c.loop-place.invariant ∙ ap (λ bytes. c.args.out.now.items ++ bytes) (all-entries values c.loop-place.place (omega arith))
