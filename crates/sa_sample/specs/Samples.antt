-- The scripts that are made from a number alone: declarations, and eight tasks of 64 calls that a generator of numbers draws. This project's own.
use Rattle.std.specs.Prelude.{ℕ, zero, suc, ◌+◌, ◌*◌, ◌%◌, ◌==◌, nat_lt, List, [], ◌∷◌, ◌++◌, slice_index_or, if◌then◌else◌, codes, decimal}
use Rattle.std.specs.List.{flat_map}
use Rattle.sa_lines.specs.Lines.{line}
use Rattle.sa_lines.specs.Quotes.{quoted}
use Rattle.sa_lines.specs.Tokens.{joined}
use Rattle.sa_sample.specs.declared.drawing.DrawnCall.{DrawnCall}
use Rattle.sa_sample.specs.declared.drawing.DrawnView.{DrawnView}
use Rattle.sa_sample.specs.declared.drawing.DrawnOp.{DrawnOp}
use Rattle.sa_sample.specs.declared.drawing.DrawnOp.TheVariants as op

-- the generator's state after one
abbrev pub next : ℕ → ℕ
next x = (75 * x + 74) % 65537

-- its state after so many steps
abbrev pub state_after : ℕ → ℕ → ℕ
state_after zero x = x
state_after (suc n) x = state_after n (next x)

-- the number below this bound that the so manieth step from a state draws
abbrev pub drawn : ℕ → ℕ → ℕ → ℕ
drawn step bound x = state_after step x % bound

-- what a call of a group does, with this word where the group has one
abbrev pub op_of : ℕ → ℕ → DrawnOp
op_of group word =
    if group == 0 then op.SetWord word
    else (if group == 1 then op.AddWord word
    else (if group == 2 then op.Copy
    else (if group == 3 then op.Replace
    else (if group == 4 then op.Strip
    else (if group == 5 then op.Find
    else (if group == 6 then op.Multiply
    else op.SetMissing))))))

-- The call that is drawn from a state: its group, the array that is read, the one that is written, how many entries, where those that are read and where those that are written begin, and a word.
abbrev pub drawn_call : ℕ → DrawnCall
drawn_call x = record {
  op = op_of (drawn 1 8 x) (drawn 7 8 x);
  source = record { array = drawn 2 4 x; start = drawn 5 32 x };
  target = record { array = drawn 3 4 x; start = drawn 6 32 x };
  count = 1 + drawn 4 32 x;
}

-- the state behind that call: a word is drawn for the first two groups alone
abbrev pub after_call : ℕ → ℕ
after_call x = state_after (if nat_lt (drawn 1 8 x) 2 then 7 else 6) x

-- the words, by their code points
abbrev pub words : List (List ℕ)
words = codes "a" ∷ codes "naïve" ∷ codes "banana" ∷ codes " padded " ∷ codes "データベース" ∷ codes "a much longer text than sixteen bytes" ∷ [] ∷ codes "x" ∷ []

abbrev pub word_of : ℕ → List ℕ
word_of k = quoted (slice_index_or words k [])

-- a view of so many entries of an array, behind the letter of the array's name
abbrev pub view_behind : DrawnView → ℕ → List ℕ
view_behind v count = decimal v.array ++ 91 ∷ (decimal v.start ++ 44 ∷ (decimal count ++ codes ",1]"))

-- an array of strings has the letter a, and one of numbers the letter n
abbrev pub view : ℕ → DrawnView → ℕ → List ℕ
view letter v count = letter ∷ view_behind v count

-- the views of strings that a call reads and writes, and the view of numbers that it writes
abbrev pub source : DrawnCall → List ℕ
source c = view 97 c.source c.count

abbrev pub target : DrawnCall → List ℕ
target c = view 97 c.target c.count

abbrev pub numbers : DrawnCall → List ℕ
numbers c = view 110 c.target c.count

-- the word into and what is written
abbrev pub into : List ℕ → List (List ℕ)
into out = codes "into" ∷ out ∷ []

-- the tokens of a call
abbrev pub tokens_by : DrawnOp → DrawnCall → List (List ℕ)
tokens_by (op.SetWord word) c = codes "set" ∷ target c ∷ word_of word ∷ []
tokens_by (op.AddWord word) c = codes "add" ∷ source c ∷ word_of word ∷ into (target c)
tokens_by op.Copy c = codes "copy" ∷ source c ∷ into (target c)
tokens_by op.Replace c = codes "replace" ∷ source c ∷ quoted (codes "a") ∷ quoted (codes "éé") ∷ into (target c)
tokens_by op.Strip c = codes "strip" ∷ source c ∷ into (target c)
tokens_by op.Find c = codes "find" ∷ source c ∷ quoted (codes "a") ∷ into (numbers c)
tokens_by op.Multiply c = codes "multiply" ∷ source c ∷ codes "2" ∷ into (target c)
tokens_by op.SetMissing c = codes "set" ∷ target c ∷ codes "na" ∷ []

abbrev pub call_tokens : DrawnCall → List (List ℕ)
call_tokens c = tokens_by c.op c

-- so many calls that are drawn from a state on, each a line
unfoldable pub call_lines : ℕ → ℕ → List (List ℕ)
call_lines zero x = []
call_lines (suc n) x = joined (call_tokens (drawn_call x)) ∷ call_lines n (after_call x)

unfoldable pub after_calls : ℕ → ℕ → ℕ
after_calls zero x = x
after_calls (suc n) x = after_calls n (after_call x)

-- so many tasks of 64 calls
unfoldable pub task_lines : ℕ → ℕ → List (List ℕ)
task_lines zero x = []
task_lines (suc n) x = codes "task" ∷ (call_lines 64 x ++ task_lines n (after_calls 64 x))

-- four descriptors, and for each an array of strings and one of numbers
abbrev pub declaration_lines : List (List ℕ)
declaration_lines =
    codes "descr d0 absent coerce" ∷ codes "descr d1 nan coerce" ∷ codes "descr d2 absent coerce" ∷ codes "descr d3 nan coerce"
    ∷ codes "array a0 d0 str 64" ∷ codes "array n0 d0 int 64" ∷ codes "array a1 d1 str 64" ∷ codes "array n1 d1 int 64"
    ∷ codes "array a2 d2 str 64" ∷ codes "array n2 d2 int 64" ∷ codes "array a3 d3 str 64" ∷ codes "array n3 d3 int 64" ∷ []

-- the lines of the sample of this number, and its bytes: each line ends with a line feed
abbrev pub sample_lines : ℕ → List (List ℕ)
sample_lines number = declaration_lines ++ (task_lines 8 number ++ codes "end" ∷ [])

abbrev pub sample_of : ℕ → List ℕ
sample_of number = flat_map line (sample_lines number)
