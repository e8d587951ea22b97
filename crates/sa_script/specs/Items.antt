-- Lists of items as they are spelled in a script.
use Rattle.std.specs.Prelude.{ℕ, zero, suc, ◌==◌, nat_lt, ℤ, Bool, true, false, ◌||◌, List, [], ◌∷◌, ◌++◌, length, take, drop, position, Option, Some, None, option_map, unwrap_or, Result, Ok, Err, if◌then◌else◌, codes}
use Rattle.sa_lines.specs.Numbers.{number_of}
use Rattle.sa_lines.specs.Options.{◌>>=◌}
use Rattle.sa_lines.specs.Quotes.{quoted_at}
use Rattle.sa_lines.specs.Tokens.{is_word}
use Rattle.sa_text.specs.Texts.{text_of}
use Rattle.sa_text.specs.declared.text_error.TextError.{TextError}
use Rattle.sa_text.specs.declared.text_error.TextError.TheVariants as errors
use Rattle.sa_text.specs.declared.value.Value.{Value}
use Rattle.sa_text.specs.declared.value.Value.TheVariants.{Missing, Of}
use Rattle.sa_plain.specs.declared.items.Items.{Items}
use Rattle.sa_plain.specs.declared.items.Items.TheVariants.{Values, Ints, Flags, Bytes, Units}
use Rattle.sa_script.specs.declared.item_kind.ItemKind.{ItemKind}
use Rattle.sa_script.specs.declared.item_kind.ItemKind.TheVariants as kinds
use Rattle.sa_script.specs.FixedTexts.{bytes_of, units_of}
use Rattle.sa_script.specs.Limits.{most_items}

-- The text that the bytes of a quoted one are. The outer none is no text, the inner none one that is too long.
abbrev pub fitting : Result (List ℕ) TextError → Option (Option (List ℕ))
fitting (Ok text) = Some (Some text)
fitting (Err errors.TooLong) = Some None
fitting (Err errors.NotUtf8) = None
fitting (Err errors.Memory) = None

-- a quoted text at the front, none inside where it is too long, and the bytes after it
abbrev pub text_at : List ℕ → Option (Option (List ℕ) × List ℕ)
text_at bs = quoted_at bs >>= λ q. fitting (text_of q.0) >>= λ text. Some (text, q.1)

abbrev pub nothing_left : {A : Type 0} → A × List ℕ → Option A
nothing_left (x, []) = Some x
nothing_left (x, b ∷ bs) = None

-- a token that is a quoted text
abbrev pub text_token : List ℕ → Option (Option (List ℕ))
text_token token = text_at token >>= nothing_left

abbrev pub of_text : Option (List ℕ) → Option Value
of_text None = None
of_text (Some text) = Some (Of text)

-- the word na, of which the first letter was read
abbrev pub missing_at : List ℕ → Option (Option Value × List ℕ)
missing_at [] = None
missing_at (b ∷ bs) = if b == 97 then Some (Some Missing, bs) else None

-- an item at the front: na, or a text, none inside where it is too long; and the bytes after it
abbrev pub item_at : List ℕ → Option (Option Value × List ℕ)
item_at [] = None
item_at (b ∷ bs) = if b == 110 then missing_at bs else (text_at (b ∷ bs) >>= λ t. Some (of_text t.0, t.1))

-- the number of bytes in front of the first comma or closing bracket
abbrev pub is_mark : ℕ → Bool
is_mark b = (b == 44) || (b == 41)

abbrev pub piece_size : List ℕ → ℕ
piece_size bs = unwrap_or (position is_mark bs) (length bs)

-- an item at the front that goes up to the next comma or closing bracket, and the bytes after it
abbrev pub piece_at : {A : Type 0} → (List ℕ → Option A) → List ℕ → Option (A × List ℕ)
piece_at item bs = item (take (piece_size bs) bs) >>= λ i. Some (i, drop (piece_size bs) bs)

-- a number, none inside where it is no i64
abbrev pub number_at : List ℕ → Option (Option ℤ × List ℕ)
number_at bs = piece_at number_of bs

-- a truth value
abbrev pub flag_of : List ℕ → Option Bool
flag_of piece = if is_word (codes "true") piece then Some true else (if is_word (codes "false") piece then Some false else None)

-- an item that passes no limit by itself
abbrev pub whole_item : {A : Type 0} → (List ℕ → Option A) → List ℕ → Option (Option A)
whole_item item piece = option_map (λ i. Some i) (item piece)

abbrev pub flag_at : List ℕ → Option (Option Bool × List ℕ)
flag_at bs = piece_at (whole_item flag_of) bs

-- a byte text, and a unicode text
abbrev pub bytes_at : List ℕ → Option (Option (List ℕ) × List ℕ)
bytes_at bs = piece_at (whole_item bytes_of) bs

abbrev pub units_at : List ℕ → Option (Option (List ℕ) × List ℕ)
units_at bs = piece_at (whole_item units_of) bs

-- One more item of a list: none once an item passed a limit or there are more items than a list may have.
abbrev pub one_more : {A : Type 0} → Option (List A) → Option A → Option (List A)
one_more None item = None
one_more (Some items) None = None
one_more (Some items) (Some item) = if nat_lt (length items) most_items then Some (items ++ item ∷ []) else None

abbrev pub uncons : List ℕ → Option (ℕ × List ℕ)
uncons [] = None
uncons (b ∷ bs) = Some (b, bs)

-- one more item, the byte behind it, and the bytes after that
abbrev pub further_at : {A : Type 0} → (List ℕ → Option (Option A × List ℕ)) → Option (List A) → List ℕ → Option (Option (List A) × ℕ × List ℕ)
further_at item so_far bs = item bs >>= λ i. uncons i.1 >>= λ r. Some (one_more so_far i.0, r.0, r.1)

-- at most this many items behind those read, a comma between two, and a closing bracket; and the bytes after it
abbrev pub items_at : {A : Type 0} → (List ℕ → Option (Option A × List ℕ)) → ℕ → Option (List A) → List ℕ → Option (Option (List A) × List ℕ)
items_at item zero so_far bs = None
items_at item (suc left) so_far bs =
    further_at item so_far bs >>= λ f.
    if f.1 == 44 then items_at item left f.0 f.2 else (if f.1 == 41 then Some (f.0, f.2) else None)

-- a token that is one such item, or such items in brackets
abbrev pub list_as : {A : Type 0} → (List ℕ → Option (Option A × List ℕ)) → List ℕ → Option (Option (List A))
list_as item [] = None
list_as item (b ∷ bs) = if b == 40 then (items_at item (length bs) (Some []) bs >>= nothing_left) else (item (b ∷ bs) >>= λ i. nothing_left (one_more (Some []) i.0, i.1))

-- what the items of a list are, by the first byte of its first item: a text or na, a truth value, a byte text, a unicode text, or else a number
abbrev pub kind_begun : List ℕ → ItemKind
kind_begun [] = kinds.Numbers
kind_begun (b ∷ bs) =
    if (b == 34) || (b == 110) then kinds.Values
    else (if (b == 116) || (b == 102) then kinds.Flags
    else (if b == 104 then kinds.Bytes
    else (if b == 117 then kinds.Units
    else kinds.Numbers)))

abbrev pub item_kind : List ℕ → ItemKind
item_kind [] = kinds.Numbers
item_kind (b ∷ bs) = if b == 40 then kind_begun bs else kind_begun (b ∷ bs)

-- a token that is a list of items of a kind
abbrev pub list_of_kind : ItemKind → List ℕ → Option (Option Items)
list_of_kind kinds.Values token = option_map (λ items. option_map Values items) (list_as item_at token)
list_of_kind kinds.Numbers token = option_map (λ items. option_map Ints items) (list_as number_at token)
list_of_kind kinds.Flags token = option_map (λ items. option_map Flags items) (list_as flag_at token)
list_of_kind kinds.Bytes token = option_map (λ items. option_map Bytes items) (list_as bytes_at token)
list_of_kind kinds.Units token = option_map (λ items. option_map Units items) (list_as units_at token)

-- A token that is a list, of items of one kind. The outer none is no list, the inner none a list that passes a limit.
abbrev pub list_of : List ℕ → Option (Option Items)
list_of token = list_of_kind (item_kind token) token
