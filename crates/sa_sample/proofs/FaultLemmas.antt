-- No call of a sample has a fault.
use Rattle.std.proofs.Common.{◌≡◌, ℕ, ◌<◌, Bool, true, false, List, [], ◌∷◌, map, length, Some, None, pos, negsuc, refl, ap, ◌∙◌}
use Rattle.std.specs.List.{list_any}
use Rattle.std.proofs.lemmas.Bool.{lt-leb, lt-ltb}
use Rattle.sa_view.specs.declared.view.View.{View}
use Rattle.sa_text.specs.declared.value.Value.{Value}
use Rattle.sa_text.specs.declared.value.Value.TheVariants.{Of}
use Rattle.sa_plain.specs.declared.items.Items.{Items}
use Rattle.sa_plain.specs.declared.items.Items.TheVariants.{Values, Ints}
use Rattle.sa_call.specs.Calls.{lengths_fit}
use Rattle.sa_call.specs.Forms.{whole_search}
use Rattle.sa_call.specs.Valid.{call_kinds_fit, rules_fit}
use Rattle.sa_call.specs.declared.call.Call.{Call}
use Rattle.sa_call.specs.declared.call.Op.{Op}
use Rattle.sa_call.specs.declared.call.Op.TheVariants as op
use Rattle.sa_call.specs.declared.call.Operand.TheVariants as operand
use Rattle.sa_script.specs.Faults.{fault_of}
use Rattle.sa_script.specs.Terms.{call_in, line_slices, line_misnamed, line_passes, line_unfit, line_miskinded, line_misfilled, op_in, operands_in, term_slices, term_misnamed, term_passes, term_unfit, term_miskinded, term_misfilled}
use Rattle.sa_script.specs.declared.context.Context.{Context}
use Rattle.sa_script.specs.declared.statement.Line.{Line}
use Rattle.sa_script.specs.declared.statement.Statement.TheVariants as statement
use Rattle.sa_script.specs.declared.statement.Term.{Term}
use Rattle.sa_script.specs.declared.statement.Term.TheVariants as term
use Rattle.sa_sample.specs.declared.drawing.DrawnView.{DrawnView}
use Rattle.sa_sample.proofs.CallLemmas.{listed, reading, setting}
use Rattle.sa_sample.proofs.CombineLemmas.{rules-both, rules-one, length-set, length-two, length-three, length-five, fits-length}
use Rattle.sa_sample.proofs.DeclarationLemmas.{declared, ready}
use Rattle.sa_sample.proofs.MeantLemmas.{IsMeant, texts, integers, texts-kind, integers-kind, texts-meant, integers-meant}
use Rattle.sa_sample.proofs.ViewLemmas.{IsDrawnView, view_term}

-- a line with tasks and calls before it has no fault, and means a call
pub record IsFaultless (tasks : List (List Call)) (calls : ℕ) (l : Line) : Type 0 where
  pub slices : line_slices l ≡ false
  pub misnamed : line_misnamed (ready tasks calls) l ≡ false
  pub passes : line_passes l ≡ false
  pub unfit : line_unfit (ready tasks calls) l ≡ false
  pub miskinded : line_miskinded l ≡ false
  pub misfilled : line_misfilled l ≡ false
  pub call : Call
  pub meant : call_in (ready tasks calls) l ≡ call
  pub kinds : call_kinds_fit declared call ≡ true
  pub lengths : lengths_fit call ≡ true
  pub rules : rules_fit declared call ≡ true

-- so it has no fault where a task has begun and few calls stand before it
pub no-fault : (tasks : List (List Call)) (calls : ℕ) (l : Line) → IsFaultless tasks calls l → 0 < length tasks → calls < 1024 → fault_of (ready tasks calls) (statement.Call l) ≡ None
no-fault tasks calls l f some few =
    let slices = f.slices in
    let task = lt-ltb 0 (length tasks) some in
    let misnamed = f.misnamed in
    let passes = f.passes in
    let more = lt-leb 1024 calls few in
    let unfit = f.unfit in
    let miskinded = f.miskinded in
    let kinds = ap (call_kinds_fit declared) f.meant ∙ f.kinds in
    let lengths = ap lengths_fit f.meant ∙ f.lengths in
    let rules = ap (rules_fit declared) f.meant ∙ f.rules in
    let misfilled = f.misfilled in
    rw (slices, task, misnamed, passes, more, unfit, miskinded, kinds, lengths, rules, misfilled) refl

-- no list passes a test that none passes
listed-none : (test : Term → Bool) → ((items : Items) → test (term.List (Some items)) ≡ false) → (lists : List Items) → list_any test (listed lists) ≡ false
listed-none test h [] = refl
listed-none test h (l ∷ ls) = let first = h l in rw first (listed-none test h ls)

-- lists mean literals, and leave what the call does
operands-listed : (c : Context) (lists : List Items) → operands_in c (listed lists) ≡ map (λ items. operand.Literal items) lists
operands-listed c [] = refl
operands-listed c (l ∷ ls) = ap (λ os. operand.Literal l ∷ os) (operands-listed c ls)

op-listed : (c : Context) (o : Op) (lists : List Items) → op_in c o (listed lists) ≡ o
op-listed c o [] = refl
op-listed c o (l ∷ ls) = op-listed c o ls

-- the call that reads a view and lists
abbrev called : Op → View → List Items → View → Call
called o v lists out = record { op = o; operands = operand.View v ∷ map (λ items. operand.Literal items) lists; out = Some out }

-- a line that reads a view and lists has no fault where its call has none
reading-faultless : (tasks : List (List Call)) (calls : ℕ) (o : Op) (x y : DrawnView) (letter count : ℕ) (lists : List Items) (v out : View)
    → IsMeant tasks calls (view_term 97 x count) v → IsMeant tasks calls (view_term letter y count) out
    → call_kinds_fit declared (called o v lists out) ≡ true → lengths_fit (called o v lists out) ≡ true → rules_fit declared (called o v lists out) ≡ true
    → IsFaultless tasks calls (reading o (view_term 97 x count) lists (view_term letter y count))
reading-faultless tasks calls o x y letter count lists v out m n kinds lengths rules = record {
  slices = rw (listed-none term_slices (λ items. refl) lists) refl;
  misnamed = rw (m.named, listed-none (term_misnamed (ready tasks calls)) (λ items. refl) lists, n.named) refl;
  passes = rw (listed-none term_passes (λ items. refl) lists) refl;
  unfit = rw (m.fit, listed-none (term_unfit (ready tasks calls)) (λ items. refl) lists, n.fit) refl;
  miskinded = listed-none term_miskinded (λ items. refl) lists;
  misfilled = listed-none term_misfilled (λ items. refl) lists;
  call = called o v lists out;
  meant = λ i. record {
    op = op-listed (ready tasks calls) o lists i;
    operands = operand.View (m.meant i) ∷ operands-listed (ready tasks calls) lists i;
    out = Some (n.meant i);
  };
  kinds = kinds;
  lengths = lengths;
  rules = rules;
}

-- a line that puts one value into a view
pub set-faultless : (tasks : List (List Call)) (calls : ℕ) (y : DrawnView) (count : ℕ) (value : Value) → IsDrawnView y count → IsFaultless tasks calls (setting (Values (value ∷ [])) (view_term 97 y count))
set-faultless tasks calls y count value d =
    let m = texts-meant tasks calls y count d in
    record {
      slices = refl;
      misnamed = rw m.named refl;
      passes = refl;
      unfit = rw m.fit refl;
      miskinded = refl;
      misfilled = refl;
      call = record { op = op.Set; operands = operand.Literal (Values (value ∷ [])) ∷ []; out = Some (texts y count) };
      meant = λ i. record { op = op.Set; operands = operand.Literal (Values (value ∷ [])) ∷ []; out = Some (m.meant i) };
      kinds = rw (texts-kind y.array d.array) refl;
      lengths = fits-length (texts y count) (1 ∷ count ∷ []) (length-set count);
      rules = refl;
    }

-- a line that reads strings and writes strings
abbrev pub text_line : Op → DrawnView → List Items → DrawnView → ℕ → Line
text_line o x lists y count = reading o (view_term 97 x count) lists (view_term 97 y count)

-- a text as an operand
abbrev pub text_items : List ℕ → Items
text_items text = Values (Of text ∷ [])

-- the lines of a sample that read a view
module _ (tasks : List (List Call)) (calls : ℕ) (x y : DrawnView) (count : ℕ) (d : IsDrawnView x count) (e : IsDrawnView y count) where
  text-faultless : (o : Op) (lists : List Items)
      → call_kinds_fit declared (called o (texts x count) lists (texts y count)) ≡ true → lengths_fit (called o (texts x count) lists (texts y count)) ≡ true → rules_fit declared (called o (texts x count) lists (texts y count)) ≡ true
      → IsFaultless tasks calls (text_line o x lists y count)
  text-faultless o lists = reading-faultless tasks calls o x y 97 count lists (texts x count) (texts y count) (texts-meant tasks calls x count d) (texts-meant tasks calls y count e)

  pub copy-faultless : IsFaultless tasks calls (text_line op.Copy x [] y count)
  copy-faultless = text-faultless op.Copy [] (rw (texts-kind x.array d.array, texts-kind y.array e.array) refl) (fits-length (texts y count) (count ∷ count ∷ []) (length-two count)) refl

  pub strip-faultless : IsFaultless tasks calls (text_line op.Strip x [] y count)
  strip-faultless =
      text-faultless op.Strip [] (rw (texts-kind x.array d.array, texts-kind y.array e.array) refl)
      (fits-length (texts y count) (count ∷ count ∷ []) (length-two count)) (rules-both x.array y.array d.array e.array)

  pub add-faultless : (text : List ℕ) → IsFaultless tasks calls (text_line op.Add x (text_items text ∷ []) y count)
  add-faultless text =
      text-faultless op.Add (text_items text ∷ []) (rw (texts-kind x.array d.array, texts-kind y.array e.array) refl)
      (fits-length (texts y count) (count ∷ 1 ∷ count ∷ []) (length-three count)) (rules-both x.array y.array d.array e.array)

  pub multiply-faultless : IsFaultless tasks calls (text_line op.Multiply x (Ints (pos 2 ∷ []) ∷ []) y count)
  multiply-faultless =
      text-faultless op.Multiply (Ints (pos 2 ∷ []) ∷ []) (rw (texts-kind x.array d.array, texts-kind y.array e.array) refl)
      (fits-length (texts y count) (count ∷ 1 ∷ count ∷ []) (length-three count)) (rules-both x.array y.array d.array e.array)

  pub replace-faultless : (text other : List ℕ) → IsFaultless tasks calls (text_line op.Replace x (text_items text ∷ text_items other ∷ Ints (negsuc 0 ∷ []) ∷ []) y count)
  replace-faultless text other =
      text-faultless op.Replace (text_items text ∷ text_items other ∷ Ints (negsuc 0 ∷ []) ∷ []) (rw (texts-kind x.array d.array, texts-kind y.array e.array) refl)
      (fits-length (texts y count) (count ∷ 1 ∷ 1 ∷ 1 ∷ count ∷ []) (length-five count)) (rules-both x.array y.array d.array e.array)

  -- a search from the front past every text's end, which writes numbers
  pub find-faultless : (text : List ℕ)
      → IsFaultless tasks calls (reading op.Find (view_term 97 x count) (text_items text ∷ map (λ n. Ints (n ∷ [])) whole_search) (view_term 110 y count))
  find-faultless text =
      reading-faultless tasks calls op.Find x y 110 count (text_items text ∷ map (λ n. Ints (n ∷ [])) whole_search) (texts x count) (integers y count)
      (texts-meant tasks calls x count d) (integers-meant tasks calls y count e) (rw (texts-kind x.array d.array, integers-kind y.array e.array) refl)
      (fits-length (integers y count) (count ∷ 1 ∷ 1 ∷ 1 ∷ count ∷ []) (length-five count)) (rules-one x.array y.array d.array e.array)
