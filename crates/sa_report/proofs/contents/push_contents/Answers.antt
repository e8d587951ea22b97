-- The contents of a strings array are those of its home's store, those of a plain array its items.
use Rattle.std.proofs.Common.{◌≡◌, ◌++◌, [], ℕ, false, Bool, cond, List, Some, None, length, sym, ap, ap₂, ◌∙◌, subst, arith}
use Rattle.std.specs.Result.{OnOk}
use Rattle.sa_plain.specs.Written.{list_bytes}
use Rattle.sa_plain.specs.declared.items.Items.{Items}
use Rattle.sa_plain.specs.declared.items.Items.TheVariants.{Values, Ints}
use Rattle.sa_call.specs.Decls.{Declared, home_of, is_strings_array}
use Rattle.sa_call.specs.Told.{index_at_home}
use Rattle.sa_loop.specs.Gathers.{plain_in}
use Rattle.sa_loop.specs.Runs.{world_of}
use Rattle.sa_loop.specs.States.{World, lengths_of, plain_of, values_at}
use Rattle.sa_loop.proofs.SlotLemmas.{slot-within}
use Rattle.sa_report.specs.Plays.{contents_at, plain_list}
use Rattle.sa_report.proofs.ContentLemmas.{home-declared, no-plain, plain-got}
use Rattle.sa_report.proofs.contents.push_contents.Goals as goal

pub push_strings-requires : goal.push_strings-requires
push_strings-requires g c =
    let decls = c.args.decls.now in
    let array = c.args.array in
    let strings = sym c.is_strings_array.ensures ∙ c.if-is_strings_array.true in
    let shape : c.in-Some.store.now.contents.layout.lengths ≡ lengths_of decls (home_of decls array) = c.in-Some.ensures.shape ∙ ap₂ lengths_of c.requires.decls c.home_of-home.ensures in
    let slot = c.index_at_home-index.ensures in
    let long = ap (λ (ns : List ℕ). length ns) shape in
    let within = slot-within decls array strings c.requires.there in
    omega arith

-- the contents of an array that is a plain one
plain-contents : (decls : Declared) (w : World) (array : ℕ) (items : Items) → is_strings_array decls array ≡ false → items ≡ plain_list (plain_of decls w array) → items ≡ contents_at decls w array
plain-contents decls w array items other same = same ∙ ap (λ (b : Bool). cond b (Values (values_at decls w array)) (plain_list (plain_of decls w array))) (sym other)

pub returns-in-Some-plain : goal.returns-in-Some-plain
returns-in-Some-plain g c =
    let decls = c.args.decls.now in
    let array = c.args.array in
    let holds = g.H.Gathered.holds c.args.from.now in
    let other = sym c.is_strings_array.ensures ∙ c.if-is_strings_array.false in
    let p = c.in-Some-plain.plain.now in
    let home = c.home_of-home.ensures in
    let slot = c.index_at_home-index.ensures in
    let got : Some p ≡ plain_in (length decls.descrs) holds (home_of decls array) (index_at_home decls array) =
    c.in-Some-plain.ensures ∙ ap (λ (d : Declared). plain_in (length d.descrs) holds c.home_of-home.result c.index_at_home-index.result) c.requires.decls
    ∙ ap₂ (λ h k. plain_in (length decls.descrs) holds h k) home slot in
    let is = plain-got (length decls.descrs) holds (home_of decls array) (index_at_home decls array) p (home-declared decls array c.requires.declared c.requires.there) got in
    subst (λ (i : Items). OnOk c.push_plain.result (c.push_plain.new.out.items ≡ c.args.out.now.items ++ list_bytes i))
    (plain-contents decls (world_of holds) array (plain_list p) other (ap plain_list is)) c.push_plain.ensures

pub returns-in-None : goal.returns-in-None
returns-in-None g c =
    let decls = c.args.decls.now in
    let array = c.args.array in
    let holds = g.H.Gathered.holds c.args.from.now in
    let other = sym c.is_strings_array.ensures ∙ c.if-is_strings_array.false in
    let home = c.home_of-home.ensures in
    let slot = c.index_at_home-index.ensures in
    let gone : None ≡ plain_in (length decls.descrs) holds (home_of decls array) (index_at_home decls array) =
    c.in-None.ensures ∙ ap (λ (d : Declared). plain_in (length d.descrs) holds c.home_of-home.result c.index_at_home-index.result) c.requires.decls
    ∙ ap₂ (λ h k. plain_in (length decls.descrs) holds h k) home slot in
    let is = no-plain (length decls.descrs) holds (home_of decls array) (index_at_home decls array) (home-declared decls array c.requires.declared c.requires.there) gone in
    subst (λ (i : Items). OnOk c.push_bytes.result (c.push_bytes.new.out.items ≡ c.args.out.now.items ++ list_bytes i))
    (plain-contents decls (world_of holds) array (Ints []) other (sym is)) c.push_bytes.ensures
