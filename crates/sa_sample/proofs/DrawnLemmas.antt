-- The tokens of a drawn call are read as a line without a fault.
use Rattle.std.proofs.Common.{◌≡◌, ℕ, ◌+◌, ◌%◌, ◌<◌, false, List, [], ◌∷◌, map, Some, pos, negsuc, refl, arith, codes}
use Rattle.std.specs.List.{AllByRecursion}
use Rattle.sa_lines.specs.Lines.{is_skipped}
use Rattle.sa_lines.specs.Quotes.{quoted}
use Rattle.sa_lines.specs.Tokens.{joined}
use Rattle.sa_text.specs.declared.value.Value.{Value}
use Rattle.sa_text.specs.declared.value.Value.TheVariants.{Missing, Of}
use Rattle.sa_plain.specs.declared.items.Items.TheVariants.{Values, Ints}
use Rattle.sa_call.specs.Forms.{whole_search}
use Rattle.sa_call.specs.declared.call.Call.{Call}
use Rattle.sa_call.specs.declared.call.Op.TheVariants as calls
use Rattle.sa_script.specs.Items.{list_of}
use Rattle.sa_script.specs.Statements.{statement_of}
use Rattle.sa_script.specs.declared.statement.Line.{Line}
use Rattle.sa_script.specs.declared.statement.Statement.TheVariants as statement
use Rattle.sa_sample.specs.Samples.{call_tokens, drawn_call, into, numbers, source, target, tokens_by, view, view_behind, word_of}
use Rattle.sa_sample.specs.declared.drawing.DrawnCall.{DrawnCall}
use Rattle.sa_sample.specs.declared.drawing.DrawnOp.{DrawnOp}
use Rattle.sa_sample.specs.declared.drawing.DrawnOp.TheVariants as op
use Rattle.sa_sample.specs.declared.drawing.DrawnView.{DrawnView}
use Rattle.sa_sample.proofs.CallLemmas.{reading, setting, set-reads, add-reads, copy-reads, replace-reads, strip-reads, find-reads, multiply-reads}
use Rattle.sa_sample.proofs.FaultLemmas.{IsFaultless, text_items, text_line, set-faultless, add-faultless, copy-faultless, replace-faultless, strip-faultless, find-faultless, multiply-faultless}
use Rattle.sa_sample.proofs.TokenLemmas.{IsGood, good-text}
use Rattle.sa_sample.proofs.ViewLemmas.{IsDrawnView, IsLetter, letter-a, letter-n, view_term, view-good, view-reads}
use Rattle.sa_sample.proofs.WordLemmas.{IsWord, word-a, word-double, word-is}

-- a call whose views are drawn
record IsDrawnCall (c : DrawnCall) : Type 0 where
  source : IsDrawnView c.source c.count
  target : IsDrawnView c.target c.count

-- what is drawn is below its bound
below-four : (n : ℕ) → n % 4 < 4
below-four n = omega arith

below-half : (n : ℕ) → n % 32 < 32
below-half n = omega arith

few-drawn : (n : ℕ) → 1 + n % 32 < 33
few-drawn n = omega arith

some-drawn : (n : ℕ) → 0 < 1 + n
some-drawn n = omega arith

-- so each drawn call is one
drawn-is : (x : ℕ) → IsDrawnCall (drawn_call x)
drawn-is x = record {
  source = record { array = below-four _; start = below-half _; some = some-drawn _; few = few-drawn _ };
  target = record { array = below-four _; start = below-half _; some = some-drawn _; few = few-drawn _ };
}

-- tokens are a line with a call that has no fault
pub record IsRead (tokens : List (List ℕ)) : Type 0 where
  pub good : AllByRecursion IsGood tokens
  pub kept : is_skipped (joined tokens) ≡ false
  pub line : Line
  pub read : statement_of tokens ≡ Some (statement.Call line)
  pub faultless : (tasks : List (List Call)) (before : ℕ) → IsFaultless tasks before line

-- the word into and a view
into-good : (letter : ℕ) → IsLetter letter → (v : DrawnView) (count : ℕ) → IsDrawnView v count → AllByRecursion IsGood (into (view letter v count))
into-good letter l v count d = (good-text (codes "into") refl refl, (view-good letter l v count d, tt))

-- the calls, by what they do
module _ (c : DrawnCall) (d : IsDrawnCall c) where
  set-read : (w : List ℕ) (value : Value) → IsGood w → list_of w ≡ Some (Some (Values (value ∷ []))) → IsRead (codes "set" ∷ target c ∷ w ∷ [])
  set-read w value good list = record {
    good = (good-text (codes "set") refl refl, (view-good 97 letter-a c.target c.count d.target, (good, tt)));
    kept = refl;
    line = setting (Values (value ∷ [])) (view_term 97 c.target c.count);
    read = set-reads (target c) w (view_term 97 c.target c.count) (Values (value ∷ [])) (view-reads 97 letter-a c.target c.count d.target) list;
    faultless = λ tasks before. set-faultless tasks before c.target c.count value d.target;
  }

  add-read : (w : List ℕ) → IsWord w → IsRead (codes "add" ∷ source c ∷ w ∷ into (target c))
  add-read w word = record {
    good = (good-text (codes "add") refl refl, (view-good 97 letter-a c.source c.count d.source, (word.good, into-good 97 letter-a c.target c.count d.target)));
    kept = refl;
    line = text_line calls.Add c.source (text_items word.text ∷ []) c.target c.count;
    read =
        add-reads (view_behind c.source c.count) w (target c) (view_term 97 c.source c.count) (view_term 97 c.target c.count) (text_items word.text)
        (view-reads 97 letter-a c.source c.count d.source) word.listed (view-reads 97 letter-a c.target c.count d.target);
    faultless = λ tasks before. add-faultless tasks before c.source c.target c.count d.source d.target word.text;
  }

  copy-read : IsRead (tokens_by op.Copy c)
  copy-read = record {
    good = (good-text (codes "copy") refl refl, (view-good 97 letter-a c.source c.count d.source, into-good 97 letter-a c.target c.count d.target));
    kept = refl;
    line = text_line calls.Copy c.source [] c.target c.count;
    read =
        copy-reads (source c) (target c) (view_term 97 c.source c.count) (view_term 97 c.target c.count)
        (view-reads 97 letter-a c.source c.count d.source) (view-reads 97 letter-a c.target c.count d.target);
    faultless = λ tasks before. copy-faultless tasks before c.source c.target c.count d.source d.target;
  }

  replace-read : IsRead (tokens_by op.Replace c)
  replace-read = record {
    good = (good-text (codes "replace") refl refl, (view-good 97 letter-a c.source c.count d.source, (word-a.good, (word-double.good, into-good 97 letter-a c.target c.count d.target))));
    kept = refl;
    line = text_line calls.Replace c.source (text_items word-a.text ∷ text_items word-double.text ∷ Ints (negsuc 0 ∷ []) ∷ []) c.target c.count;
    read =
        replace-reads (view_behind c.source c.count) (quoted (codes "a")) (quoted (codes "éé")) (target c) (view_term 97 c.source c.count) (view_term 97 c.target c.count)
        (text_items word-a.text) (text_items word-double.text)
        (view-reads 97 letter-a c.source c.count d.source) word-a.listed word-double.listed (view-reads 97 letter-a c.target c.count d.target);
    faultless = λ tasks before. replace-faultless tasks before c.source c.target c.count d.source d.target word-a.text word-double.text;
  }

  strip-read : IsRead (tokens_by op.Strip c)
  strip-read = record {
    good = (good-text (codes "strip") refl refl, (view-good 97 letter-a c.source c.count d.source, into-good 97 letter-a c.target c.count d.target));
    kept = refl;
    line = text_line calls.Strip c.source [] c.target c.count;
    read =
        strip-reads (view_behind c.source c.count) (target c) (view_term 97 c.source c.count) (view_term 97 c.target c.count)
        (view-reads 97 letter-a c.source c.count d.source) (view-reads 97 letter-a c.target c.count d.target);
    faultless = λ tasks before. strip-faultless tasks before c.source c.target c.count d.source d.target;
  }

  find-read : IsRead (tokens_by op.Find c)
  find-read = record {
    good = (good-text (codes "find") refl refl, (view-good 97 letter-a c.source c.count d.source, (word-a.good, into-good 110 letter-n c.target c.count d.target)));
    kept = refl;
    line = reading calls.Find (view_term 97 c.source c.count) (text_items word-a.text ∷ map (λ n. Ints (n ∷ [])) whole_search) (view_term 110 c.target c.count);
    read =
        find-reads (view_behind c.source c.count) (quoted (codes "a")) (numbers c) (view_term 97 c.source c.count) (view_term 110 c.target c.count) (text_items word-a.text)
        (view-reads 97 letter-a c.source c.count d.source) word-a.listed (view-reads 110 letter-n c.target c.count d.target);
    faultless = λ tasks before. find-faultless tasks before c.source c.target c.count d.source d.target word-a.text;
  }

  multiply-read : IsRead (tokens_by op.Multiply c)
  multiply-read = record {
    good = (good-text (codes "multiply") refl refl, (view-good 97 letter-a c.source c.count d.source, (good-text (codes "2") refl refl, into-good 97 letter-a c.target c.count d.target)));
    kept = refl;
    line = text_line calls.Multiply c.source (Ints (pos 2 ∷ []) ∷ []) c.target c.count;
    read =
        multiply-reads (view_behind c.source c.count) (target c) (view_term 97 c.source c.count) (view_term 97 c.target c.count)
        (view-reads 97 letter-a c.source c.count d.source) (view-reads 97 letter-a c.target c.count d.target);
    faultless = λ tasks before. multiply-faultless tasks before c.source c.target c.count d.source d.target;
  }

-- each of them
call-read : (o : DrawnOp) (c : DrawnCall) → IsDrawnCall c → IsRead (tokens_by o c)
call-read (op.SetWord word) c d = let w = word-is word in set-read c d (word_of word) (Of w.text) w.good w.listed
call-read (op.AddWord word) c d = add-read c d (word_of word) (word-is word)
call-read op.Copy c d = copy-read c d
call-read op.Replace c d = replace-read c d
call-read op.Strip c d = strip-read c d
call-read op.Find c d = find-read c d
call-read op.Multiply c d = multiply-read c d
call-read op.SetMissing c d = set-read c d (codes "na") Missing (good-text (codes "na") refl refl) refl

-- so the tokens of each drawn call are read
pub drawn-read : (x : ℕ) → IsRead (call_tokens (drawn_call x))
drawn-read x = call-read (drawn_call x).op (drawn_call x) (drawn-is x)
