-- The order in which acts took effect: a list of lines whose chains agree is a play of their calls, one after another.
use Rattle.std.specs.Prelude.{◌≡◌, ◌<◌, ℕ, List, length, map}
use Rattle.std.specs.List.{AllByRecursion}
use Rattle.sa_call.specs.declared.call.Call.{Call}
use Rattle.sa_call.specs.declared.reply.Outcome.{Outcome}
use Rattle.sa_call.specs.declared.reply.Reply.{Reply}
use Rattle.sa_call.specs.Decls.{Declared, IsDeclared}
use Rattle.sa_journal.specs.declared.party.Party.TheVariants.{Descr}
use Rattle.sa_journal.specs.Chains.{Keyed, chain_of}
use Rattle.sa_hall.specs.Contents.{Contents}
use Rattle.sa_hall.specs.Domains.{IsReadHere, stepped}
use Rattle.sa_hall.specs.Folds.{Agrees, left_by}
use Rattle.sa_loop.specs.declared.act.Act.{Act}
use Rattle.sa_loop.specs.Acts.{act_said}
use Rattle.sa_loop.specs.Plays.{outcomes_from, world_left}
use Rattle.sa_loop.specs.Runs.{IsContents, shown, world_of}

abbrev pub line_call : Keyed Act → Call
line_call l = l.1.deed.body.now

abbrev pub line_reply : Keyed Act → Reply
line_reply l = l.1.deed.outcome.reply

-- the lines that name a descriptor
abbrev pub chain_at : ℕ → List (Keyed Act) → List (Keyed Act)
chain_at d lines = chain_of act_said (Descr d) lines

-- what they leave of the descriptor
abbrev pub contents_left : ℕ → Contents → List (Keyed Act) → Contents
contents_left d opening lines = left_by (λ a. stepped d (act_said a)) (λ a. IsReadHere d (act_said a)) opening (chain_at d lines)

-- each of them read what those before it leave
abbrev pub AgreesAt : ℕ → Contents → List (Keyed Act) → Type 0
AgreesAt d opening lines = Agrees (λ a. stepped d (act_said a)) (λ a. IsReadHere d (act_said a)) opening (chain_at d lines)

-- the replies of lines, and what their chains leave, are those of the play of their calls
pub record IsPlayed (decls : Declared) (opening : ℕ → Contents) (lines : List (Keyed Act)) : Type 0 where
  pub replies : map line_reply lines ≡ map (λ (o : Outcome). o.reply) (outcomes_from decls (world_of opening) (map line_call lines))
  pub states : (d : ℕ) → d < length decls.descrs → shown (contents_left d (opening d) lines) ≡ world_left decls (world_of opening) (map line_call lines) d

-- A list of lines under one declaration is a play of its calls, where the chain of each descriptor in it agrees.
abbrev pub OneOrder : Type 0
OneOrder = (decls : Declared) (opening : ℕ → Contents) (lines : List (Keyed Act)) → IsDeclared decls
    → ((d : ℕ) → d < length decls.descrs → IsContents decls d (opening d))
    → AllByRecursion (λ (l : Keyed Act). l.1.deed.decls.now ≡ decls) lines
    → ((d : ℕ) → d < length decls.descrs → AgreesAt d (opening d) lines)
    → IsPlayed decls opening lines
