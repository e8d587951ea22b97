-- The play of calls: the replies and the world that they leave, one call after another.
use Rattle.std.specs.Prelude.{List, [], ◌∷◌, map}
use Rattle.sa_call.specs.declared.call.Call.{Call}
use Rattle.sa_call.specs.declared.reply.Reply.{Reply}
use Rattle.sa_call.specs.declared.reply.Outcome.{Outcome}
use Rattle.sa_call.specs.Decls.{Declared}
use Rattle.sa_loop.specs.States.{World, opening}
use Rattle.sa_loop.specs.Takes.{outcome_in}
use Rattle.sa_loop.specs.Writes.{world_after}

-- what comes of calls, one after another
abbrev pub outcomes_from : Declared → World → List Call → List Outcome
outcomes_from decls w [] = []
outcomes_from decls w (c ∷ cs) = outcome_in decls w c ∷ outcomes_from decls (world_after decls w c) cs

-- the world that calls leave
abbrev pub world_left : Declared → World → List Call → World
world_left decls w [] = w
world_left decls w (c ∷ cs) = world_left decls (world_after decls w c) cs

-- the replies to calls from the opening world, and the world that they leave
abbrev pub play_replies : Declared → List Call → List Reply
play_replies decls calls = map (λ (o : Outcome). o.reply) (outcomes_from decls (opening decls) calls)

abbrev pub play_world : Declared → List Call → World
play_world decls calls = world_left decls (opening decls) calls
