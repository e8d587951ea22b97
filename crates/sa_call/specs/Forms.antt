-- The table of calls. Source: this project's script language; what a call computes is NumPy's.
use Rattle.std.specs.Prelude.{◌≡◌, ℕ, ℤ, pos, negsuc, ◌==◌, Bool, true, false, List, [], ◌∷◌, length, slice_get, slice_index_or, find as find_call, Option, Some, None, option_map, Result, Ok, Err, if◌then◌else◌, codes}
use Rattle.std.specs.Str.{bytes_eq}
use Rattle.sa_base.specs.Items.{Item, MissingItem, TextItem, IntegerItem, FlagItem, BytesItem, UnitsItem}
use Rattle.sa_plain.specs.Items.{count_of, items_of}
use Rattle.sa_plain.specs.declared.items.Items.{Items}
use Rattle.sa_text.specs.Making.{made}
use Rattle.sa_text.specs.declared.edit_error.EditError.{EditError}
use Rattle.sa_edit.specs.Joins.{add, multiply}
use Rattle.sa_edit.specs.Justifies.{center, ljust, rjust, zfill}
use Rattle.sa_edit.specs.Strips.{strip, lstrip, rstrip}
use Rattle.std.specs.declared.cmp.Ordering.{Ordering}
use Rattle.std.specs.Ordering.{is_eq, is_ne, is_lt, is_le, is_gt, is_ge}
use Rattle.sa_search.specs.Finds.{find, rfind, index, rindex, starts, ends}
use Rattle.sa_search.specs.Counts.{count}
use Rattle.sa_search.specs.Replaces.{replace}
use Rattle.sa_pred.specs.Order.{text_order}
use Rattle.sa_pred.specs.Predicates.{is_alpha, is_decimal, is_alnum, is_space}
use Rattle.sa_descr.specs.declared.missing.MissGroup.{MissGroup}
use Rattle.sa_descr.specs.declared.missing.MissGroup.TheVariants.{Makes, Orders, Differs, Tests, Searches}
use Rattle.sa_call.specs.declared.call.Op.{Op}
use Rattle.sa_call.specs.declared.call.Op.TheVariants as op
use Rattle.sa_call.specs.declared.form.Sort.{Sort}
use Rattle.sa_call.specs.declared.form.Sort.TheVariants as sort
use Rattle.sa_call.specs.declared.form.Into.{Into}
use Rattle.sa_call.specs.declared.form.Into.TheVariants as into
use Rattle.sa_call.specs.declared.form.Gives.{Gives}
use Rattle.sa_call.specs.declared.form.Gives.TheVariants as gives
use Rattle.sa_call.specs.declared.form.Results.{Results}
use Rattle.sa_call.specs.declared.form.Results.TheVariants as results
use Rattle.sa_call.specs.declared.reply.Refusal.{Refusal}
use Rattle.sa_call.specs.declared.reply.Refusal.TheVariants as refusal

-- what an element is computed of: the items of each operand, the element's place, and the text that stands for a missing one
pub record Row : Type 0 where
  pub columns : List (List Item)
  pub at : ℕ
  pub blank : List ℕ

-- the item of an operand at a place; one item alone stands for all places
abbrev pub item_in : List Item → ℕ → Item
item_in items at = slice_index_or items (if length items == 1 then 0 else at) MissingItem

-- the text that an item is; the blank one where it is missing or no text
abbrev pub text_in : List ℕ → Item → List ℕ
text_in blank MissingItem = blank
text_in blank (TextItem text) = text
text_in blank (IntegerItem n) = blank
text_in blank (FlagItem b) = blank
text_in blank (BytesItem bytes) = blank
text_in blank (UnitsItem units) = blank

-- the flag that an item is; other items have false
abbrev pub flag_in : Item → Bool
flag_in MissingItem = false
flag_in (TextItem text) = false
flag_in (IntegerItem n) = false
flag_in (FlagItem b) = b
flag_in (BytesItem bytes) = false
flag_in (UnitsItem units) = false

-- the number that an item is; other items have 0
abbrev pub number_in : Item → ℤ
number_in MissingItem = pos 0
number_in (TextItem text) = pos 0
number_in (IntegerItem n) = n
number_in (FlagItem b) = pos 0
number_in (BytesItem bytes) = pos 0
number_in (UnitsItem units) = pos 0

-- of the operand of a number: its item, its text, its number, and its text where there is such an operand
abbrev pub item : Row → ℕ → Item
item row k = item_in (slice_index_or row.columns k []) row.at

abbrev pub text : Row → ℕ → List ℕ
text row k = text_in row.blank (item row k)

abbrev pub number : Row → ℕ → ℤ
number row k = number_in (item row k)

abbrev pub text_if : Row → ℕ → Option (List ℕ)
text_if row k = option_map (λ items. text_in row.blank (item_in items row.at)) (slice_get row.columns k)

-- the same of items of one kind
abbrev pub place_in : Items → ℕ → ℕ
place_in items at = if count_of items == 1 then 0 else at

abbrev pub text_at : List ℕ → Items → ℕ → List ℕ
text_at blank items at = text_in blank (item_in (items_of items) at)

abbrev pub number_at : Items → ℕ → ℤ
number_at items at = number_in (item_in (items_of items) at)

-- the sorts that stand for an operand; a descriptor and a fill stand in the call itself
abbrev pub is_operand : Sort → Bool
is_operand sort.View = true
is_operand sort.Literal = true
is_operand sort.Texts = true
is_operand sort.Numbers = true
is_operand sort.Fill = false
is_operand sort.Descr = false

-- A call in the table: its word, the sorts of its operands, the sorts of those that may be left out together, the numbers that then stand for these (where they are numbers), where its output stands, what it gives and of which kind, its group of missing values (none where values are moved as they are), and what it makes of one element.
pub record Entry : Type 0 where
  pub word : List ℕ
  pub needs : List Sort
  pub may : List Sort
  pub defaults : List ℤ
  pub into : Into
  pub gives : Gives
  pub results : Results
  pub group : Option MissGroup
  pub element : Row → Result Item Refusal

-- an entry without elements
abbrev pub whole : List ℕ → Gives → Entry
whole word given = record { word = word; needs = sort.Descr ∷ []; may = []; defaults = []; into = into.Never; gives = given; results = results.Moved; group = None; element = λ row. Ok MissingItem }

-- an entry of a call that moves the items of its one operand
abbrev pub moving : List ℕ → Sort → Into → Entry
moving word need output = record { word = word; needs = need ∷ []; may = []; defaults = []; into = output; gives = gives.Items; results = results.Moved; group = None; element = λ row. Ok (item row 0) }

-- an entry of a call that makes texts
abbrev pub making : List ℕ → List Sort → List Sort → List ℤ → (Row → Result Item Refusal) → Entry
making word needs may defaults element = record { word = word; needs = needs; may = may; defaults = defaults; into = into.May; gives = gives.Items; results = results.Texts; group = Some Makes; element = element }

-- without numbers a search goes from the front past every text's end
abbrev pub whole_search : List ℤ
whole_search = pos 0 ∷ pos 9223372036854775807 ∷ []

-- an entry of a call that tells something of a text in another, between two places
abbrev pub between : List ℕ → Results → MissGroup → (List ℕ → List ℕ → ℤ → ℤ → Result Item Refusal) → Entry
between word told group element = record {
  word = word;
  needs = sort.Texts ∷ sort.Texts ∷ [];
  may = sort.Numbers ∷ sort.Numbers ∷ [];
  defaults = whole_search;
  into = into.May;
  gives = gives.Items;
  results = told;
  group = Some group;
  element = λ row. element (text row 0) (text row 1) (number row 2) (number row 3);
}

-- an entry of a call that tells a flag of texts
abbrev pub telling : List ℕ → List Sort → MissGroup → (Row → Bool) → Entry
telling word needs group test = record { word = word; needs = needs; may = []; defaults = []; into = into.May; gives = gives.Items; results = results.Flags; group = Some group; element = λ row. Ok (FlagItem (test row)) }

-- an element that is a text, or one that is too long
abbrev pub text_element : Result (List ℕ) EditError → Result Item Refusal
text_element (Ok text) = Ok (TextItem text)
text_element (Err error) = Err refusal.TooLong

abbrev pub made_element : List ℕ → Result Item Refusal
made_element text = text_element (made text)

abbrev pub kept_element : List ℕ → Result Item Refusal
kept_element text = Ok (TextItem text)

-- the place of a text in another; without one the element is refused
abbrev pub place_element : Option ℤ → Result Item Refusal
place_element None = Err refusal.NotFound
place_element (Some place) = Ok (IntegerItem place)

-- an entry of a call that tells a number of a text in another
abbrev pub seeking : List ℕ → (List ℕ → List ℕ → ℤ → ℤ → ℤ) → Entry
seeking word told = between word results.Numbers Searches (λ a b start end. Ok (IntegerItem (told a b start end)))

-- one of a call that tells a place, or is refused
abbrev pub placing : List ℕ → (List ℕ → List ℕ → ℤ → ℤ → Option ℤ) → Entry
placing word place = between word results.Numbers Searches (λ a b start end. place_element (place a b start end))

-- one of a call that tests whether a text stands at an edge of another
abbrev pub testing : List ℕ → (List ℕ → List ℕ → ℤ → ℤ → Bool) → Entry
testing word test = between word results.Flags Tests (λ a b start end. Ok (FlagItem (test a b start end)))

-- one of a call that tells what the order of two texts is
abbrev pub comparing : List ℕ → MissGroup → (Ordering → Bool) → Entry
comparing word group test = telling word (sort.Texts ∷ sort.Texts ∷ []) group (λ row. test (text_order (text row 0) (text row 1)))

-- one of a call that tells what a text consists of
abbrev pub consisting : List ℕ → (List ℕ → Bool) → Entry
consisting word test = telling word (sort.Texts ∷ []) Tests (λ row. test (text row 0))

abbrev pub justifying : List ℕ → (List ℕ → ℤ → List ℕ) → Entry
justifying word justified = making word (sort.Texts ∷ sort.Numbers ∷ []) (sort.Fill ∷ []) [] (λ row. made_element (justified (text row 0) (number row 1)))

abbrev pub stripping : List ℕ → (List ℕ → Option (List ℕ) → List ℕ) → Entry
stripping word stripped = making word (sort.Texts ∷ []) (sort.Texts ∷ []) [] (λ row. kept_element (stripped (text row 0) (text_if row 1)))

abbrev pub entry : Op → Entry
entry op.Set = moving (codes "set") sort.Literal into.First
entry op.Copy = moving (codes "copy") sort.View into.Must
entry op.Show = moving (codes "show") sort.View into.Never
entry op.Add = making (codes "add") (sort.Texts ∷ sort.Texts ∷ []) [] [] (λ row. made_element (add (text row 0) (text row 1)))
entry op.Multiply = making (codes "multiply") (sort.Texts ∷ sort.Numbers ∷ []) [] [] (λ row. made_element (multiply (text row 0) (number row 1)))
entry (op.Center fill) = justifying (codes "center") (λ t w. center t w fill)
entry (op.Ljust fill) = justifying (codes "ljust") (λ t w. ljust t w fill)
entry (op.Rjust fill) = justifying (codes "rjust") (λ t w. rjust t w fill)
entry op.Zfill = making (codes "zfill") (sort.Texts ∷ sort.Numbers ∷ []) [] [] (λ row. made_element (zfill (text row 0) (number row 1)))
entry op.Strip = stripping (codes "strip") strip
entry op.Lstrip = stripping (codes "lstrip") lstrip
entry op.Rstrip = stripping (codes "rstrip") rstrip
entry op.Replace = making (codes "replace") (sort.Texts ∷ sort.Texts ∷ sort.Texts ∷ []) (sort.Numbers ∷ []) (negsuc 0 ∷ []) (λ row. made_element (replace (text row 0) (text row 1) (text row 2) (number row 3)))
entry op.Find = seeking (codes "find") find
entry op.Rfind = seeking (codes "rfind") rfind
entry op.Index = placing (codes "index") index
entry op.Rindex = placing (codes "rindex") rindex
entry op.Count = seeking (codes "count") (λ a b start end. pos (count a b start end))
entry op.Starts = testing (codes "starts") starts
entry op.Ends = testing (codes "ends") ends
entry op.Equal = comparing (codes "equal") Orders is_eq
entry op.NotEqual = comparing (codes "not_equal") Differs is_ne
entry op.Less = comparing (codes "less") Orders is_lt
entry op.LessEqual = comparing (codes "less_equal") Orders is_le
entry op.Greater = comparing (codes "greater") Orders is_gt
entry op.GreaterEqual = comparing (codes "greater_equal") Orders is_ge
entry op.IsAlpha = consisting (codes "isalpha") is_alpha
entry op.IsDecimal = consisting (codes "isdecimal") is_decimal
entry op.IsAlnum = consisting (codes "isalnum") is_alnum
entry op.IsSpace = consisting (codes "isspace") is_space
entry (op.Stats d) = whole (codes "stats") gives.Statistics
entry (op.Image d) = whole (codes "image") gives.Picture

-- results that are no texts
abbrev pub tells : Results → Bool
tells results.Moved = false
tells results.Texts = false
tells results.Numbers = true
tells results.Flags = true

-- the sorts of operands that are moved
abbrev pub is_moved : Sort → Bool
is_moved sort.View = true
is_moved sort.Literal = true
is_moved sort.Texts = false
is_moved sort.Numbers = false
is_moved sort.Fill = false
is_moved sort.Descr = false

-- the call moves the items of its one operand
pub record IsMoving (o : Op) : Type 0 where
  pub need : Sort
  pub needs : (entry o).needs ≡ need ∷ []
  pub moves : is_moved need ≡ true
  pub may : (entry o).may ≡ []
  pub results : (entry o).results ≡ results.Moved
  pub group : (entry o).group ≡ None
  pub element : (entry o).element ≡ λ row. Ok (item row 0)

-- every call, with 0 in place of a descriptor's number and a space in place of a fill
abbrev pub calls : List Op
calls =
    op.Set ∷ op.Copy ∷ op.Show
    ∷ op.Add ∷ op.Multiply ∷ op.Center 32 ∷ op.Ljust 32 ∷ op.Rjust 32 ∷ op.Zfill ∷ op.Strip ∷ op.Lstrip ∷ op.Rstrip ∷ op.Replace
    ∷ op.Find ∷ op.Rfind ∷ op.Index ∷ op.Rindex ∷ op.Count ∷ op.Starts ∷ op.Ends
    ∷ op.Equal ∷ op.NotEqual ∷ op.Less ∷ op.LessEqual ∷ op.Greater ∷ op.GreaterEqual
    ∷ op.IsAlpha ∷ op.IsDecimal ∷ op.IsAlnum ∷ op.IsSpace
    ∷ op.Stats 0 ∷ op.Image 0 ∷ []

-- the call that a word means
abbrev pub op_of : List ℕ → Option Op
op_of word = find_call (λ o. bytes_eq (entry o).word word) calls

-- the call on the descriptor of a number, where it takes one
abbrev pub on_descr : Op → ℕ → Op
on_descr (op.Stats d) number = op.Stats number
on_descr (op.Image d) number = op.Image number
on_descr other number = other

-- the call with this fill, where it takes one
abbrev pub with_fill : Op → ℕ → Op
with_fill (op.Center before) fill = op.Center fill
with_fill (op.Ljust before) fill = op.Ljust fill
with_fill (op.Rjust before) fill = op.Rjust fill
with_fill other fill = other

-- the descriptor whose statistics or picture a call gives
abbrev pub descr_of : Op → Option ℕ
descr_of (op.Stats d) = Some d
descr_of (op.Image d) = Some d
descr_of other = None
