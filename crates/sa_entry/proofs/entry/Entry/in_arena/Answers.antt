-- Two words are the spelling of a slot in the arena, at either flag.
use Rattle.std.proofs.Common.{◌≡◌, ◌∙◌, sym, ap, arith, ℕ, ◌++◌, ◌∷◌, []}
use Rattle.sa_entry.specs.Slots.{InArena, word, size_bytes, arena_flags}
use Rattle.sa_entry.proofs.SpellingLemmas.{IsSpelling-spelled, IsSlot-arena}
use Rattle.sa_entry.proofs.entry.Entry.in_arena.Goals as goal
use Rattle.sa_entry.proofs.entry.Entry.in_arena.Goals.{then-long, else-long}

pub invariant_of-result : goal.invariant_of-result
invariant_of-result c =
    let flags : c.if-long.flags ≡ arena_flags c.args.long =
    elim c.if-long.branch [
      | then-long w ↦ w.flags-is ∙ sym (ap arena_flags w.if-long.true)
      | else-long w ↦ w.flags-is ∙ sym (ap arena_flags w.if-long.false)
    ] in
    IsSpelling-spelled (InArena c.args.at c.args.size c.args.long) c.two_words.result
    (IsSlot-arena c.args.at c.args.size c.args.long (omega arith) c.requires.size c.requires.short)
    (sym (c.two_words.ensures ∙ ap (λ (f : ℕ). word c.args.at ++ (size_bytes c.args.size ++ f ∷ [])) flags))
