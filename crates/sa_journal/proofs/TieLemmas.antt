-- Ties whose ends have the keys of chains, through a turn.
use Rattle.std.proofs.Common.{◌≡◌, ◌≢◌, ◌<◌, ◌+◌, ◌&&◌, not, cond, ℕ, Bool, true, false, List, [], ◌∷◌, ◌++◌, length, map, set, get_or, All, refl, sym, ap, ◌∙◌, subst, ⊎_elim, length-set, arith}
use Rattle.std.proofs.lemmas.List.{append-nil, map-append, length-map}
use Rattle.std.proofs.lemmas.List.Elements.{filter-append, All-nil, All-push, All-weaker}
use Rattle.std.proofs.lemmas.Option.{slice_get_read}
use Rattle.std.proofs.lemmas.Bool.{cases_eq}
use Rattle.std.specs.Prelude.{slice_get, slice_index_or, Some}
use Rattle.sa_tie.specs.Seated.{TableId}
use Rattle.sa_tie.specs.Ends.{End}
use Rattle.boxcar.specs.Table.{Shelves, Where, Shows}
use Rattle.sa_journal.specs.declared.line.Line.{Line}
use Rattle.sa_journal.specs.declared.party.Party.{Party}
use Rattle.sa_journal.specs.declared.tie.Tie.{Tie}
use Rattle.sa_journal.specs.Said.{Said}
use Rattle.sa_journal.specs.Parties.{names, IsParty, NamesParties, seat_of, debt_of, owed_by, owed_to_none}
use Rattle.sa_journal.specs.Chains.{Keyed, keys_of, keyed, line_names, chain_of}
use Rattle.sa_journal.specs.Journals.{IsFresh, AreNumbered, nothing_more, linked, AreTied, AreLines, IsTurn}
use Rattle.sa_journal.proofs.ListLemmas.{all_at, all_of_map, get_more, get_put, get_else, map_put, map_at}
use Rattle.sa_journal.proofs.PartyLemmas.{named_party, seat_below, one_seat, owed_first, owed_last, put_flag, linked_else}

-- nothing, where what would be linked is owed
none : (b c : Bool) (keys : List ℕ) → (b ≡ true → c ≡ true) → cond (b && not c) keys [] ≡ []
none true true keys owed = refl
none true false keys owed = absurd (cc (owed refl))
none false c keys owed = refl

-- all of it, where it is named and not owed
some_of : (b c : Bool) (keys : List ℕ) → b ≡ true → c ≡ false → cond (b && not c) keys [] ≡ keys
some_of true false keys named paid = refl
some_of true true keys named paid = absurd (cc paid)
some_of false c keys named paid = absurd (cc named)

-- what is named, where nothing is owed
named_of : (b c : Bool) (keys : List ℕ) → c ≡ false → cond (b && not c) keys [] ≡ cond b keys []
named_of true false keys paid = refl
named_of true true keys paid = absurd (cc paid)
named_of false c keys paid = refl

-- the lines of tokens with one more
pub keyed_more : {D : Type 0} (tokens : List (Where (Line D))) (token : Where (Line D)) → keyed (tokens ++ token ∷ []) ≡ keyed tokens ++ (token.index, token.value) ∷ []
keyed_more {D} tokens token = map-append (λ (t : Where (Line D)). (t.index, t.value)) tokens (token ∷ [])

module _ {D : Type 0} (said : D → Said) where
  -- the chain of a party in lines with one more
  chain_more : (p : Party) (lines : List (Keyed D)) (line : Keyed D)
      → keys_of (chain_of said p (lines ++ line ∷ [])) ≡ keys_of (chain_of said p lines) ++ cond (line_names said p line) (line.0 ∷ []) []
  chain_more p lines line =
      ap keys_of (filter-append (λ l. line_names said p l) lines (line ∷ [])) ∙ map-append (λ (l : Keyed D). l.0) (chain_of said p lines) (chain_of said p (line ∷ []))
      ∙ ap (λ keys. keys_of (chain_of said p lines) ++ keys) (one (line_names said p line)) where
        one : (b : Bool) → keys_of (cond b (line ∷ []) []) ≡ cond b (line.0 ∷ []) []
        one true = refl
        one false = refl

  module _ (descrs tasks : ℕ) (ties : List TableId) (lines : List (Keyed D)) (line : Keyed D) (nears : List End) where
    -- a turn opens: nothing is linked yet
    pub opens : (owed : List Bool) → owed ≡ owed_by (said line.1.deed) → AreTied said descrs tasks ties lines nothing_more nears
        → AreTied said descrs tasks ties lines (linked said line owed) nears
    opens owed all kept = record {
      count = kept.count;
      tied = kept.tied;
      each = λ p n is at. kept.each p n is at ∙ ap (λ keys. keys_of (chain_of said p lines) ++ keys)
          (sym (none (line_names said p line) (slice_index_or owed (debt_of p) false) (line.0 ∷ [])
          (λ named. ap (λ flags. slice_index_or flags (debt_of p) false) all ∙ owed_first descrs tasks (said line.1.deed) p is named)));
    }

    -- a turn closes: its line is linked to all whom it names
    pub closes : (owed : List Bool) → owed ≡ owed_to_none → AreTied said descrs tasks ties lines (linked said line owed) nears
        → AreTied said descrs tasks ties (lines ++ line ∷ []) nothing_more nears
    closes owed paid kept = record {
      count = kept.count;
      tied = kept.tied;
      each = λ p n is at. kept.each p n is at ∙ ap (λ keys. keys_of (chain_of said p lines) ++ keys)
          (named_of (line_names said p line) (slice_index_or owed (debt_of p) false) (line.0 ∷ [])
          (ap (λ flags. slice_index_or flags (debt_of p) false) paid ∙ owed_last (debt_of p)))
          ∙ sym (chain_more p lines line) ∙ sym (append-nil (keys_of (chain_of said p (lines ++ line ∷ []))));
    }

    module _ (owed : List Bool) (kept : AreTied said descrs tasks ties lines (linked said line owed) nears) (q : Party) (n : End) (is : IsParty descrs tasks q) (at : slice_get nears (seat_of descrs q) ≡ Some n) where
      -- a tie whose party is owed the line has the keys of its chain
      pub before : slice_index_or owed (debt_of q) false ≡ true → n.keys ≡ keys_of (chain_of said q lines)
      before due = kept.each q n is at ∙ ap (λ keys. keys_of (chain_of said q lines) ++ keys)
          (none (line_names said q line) (slice_index_or owed (debt_of q) false) (line.0 ∷ []) (λ _. due)) ∙ append-nil (keys_of (chain_of said q lines))

      -- the line is linked to a party that it names
      pub links : (new : End) → line_names said q line ≡ true → slice_index_or owed (debt_of q) false ≡ true → new.tie ≡ n.tie → new.keys ≡ n.keys ++ line.0 ∷ []
          → AreTied said descrs tasks ties lines (linked said line (set owed (debt_of q) false)) (set nears (seat_of descrs q) new)
      links new named due tie keys = record {
        count = length-set nears (seat_of descrs q) new ∙ kept.count;
        tied = map_put (λ (e : End). e.tie) nears (seat_of descrs q) n new at tie ∙ kept.tied;
        each = λ p m is_p at_p. ⊎_elim
            (λ (same : seat_of descrs p ≡ seat_of descrs q).
            let one : p ≡ q = one_seat descrs tasks p q is_p is same in
            let here : new ≡ m = get_put nears (seat_of descrs q) n new m at (sym (ap (λ k. slice_get (set nears (seat_of descrs q) new) k) same) ∙ at_p) in
            let mine : new.keys ≡ keys_of (chain_of said q lines) ++ linked said line (set owed (debt_of q) false) q =
            keys ∙ ap (λ ks. ks ++ line.0 ∷ []) (before due)
            ∙ ap (λ ks. keys_of (chain_of said q lines) ++ ks) (sym (some_of (line_names said q line) (slice_index_or (set owed (debt_of q) false) (debt_of q) false) (line.0 ∷ []) named (put_flag owed (debt_of q)))) in
            subst (λ (x : Party × End). x.1.keys ≡ keys_of (chain_of said x.0 lines) ++ linked said line (set owed (debt_of q) false) x.0) (λ i. (sym one i, here i)) mine)
            (λ (apart : seat_of descrs p ≢ seat_of descrs q).
            kept.each p m is_p (get_else nears (seat_of descrs q) (seat_of descrs p) new m apart at_p)
            ∙ ap (λ b. keys_of (chain_of said p lines) ++ cond b (line.0 ∷ []) []) (sym (linked_else descrs tasks (said line.1.deed) owed p q is_p is named apart)))
            (cases_eq (seat_of descrs p) (seat_of descrs q));
      }

  module _ (descrs tasks : ℕ) (ties : List TableId) (lines : List (Keyed D)) (nears : List End) (kept : AreTied said descrs tasks ties lines nothing_more nears) (p : Party) (is : IsParty descrs tasks p) where
    -- an ended journal has a tie for each party
    pub ended_seat : seat_of descrs p < length nears
    ended_seat = let bound = seat_below descrs tasks p is in omega (arith, kept.count)

    module _ (n : End) (seat : ℕ) (here : seat ≡ seat_of descrs p) (read : n ≡ get_or nears seat n) where
      at_seat : slice_get nears (seat_of descrs p) ≡ Some n
      at_seat = ap (λ k. slice_get nears k) (sym here) ∙ slice_get_read nears (length nears) seat n refl (omega (arith, here, ended_seat)) read

      -- it has the keys of the party's chain
      pub ended_keys : n.keys ≡ keys_of (chain_of said p lines)
      ended_keys = kept.each p n is at_seat ∙ append-nil (keys_of (chain_of said p lines))

  -- a new journal: no lines, and ties with no key
  pub begins : (roll : Shelves) (descrs tasks : ℕ) (ids : List TableId) (ties : List Tie) (nears : List End) → nears ≡ map (λ t. t.near) ties
      → All IsFresh ties → length ties ≡ descrs + tasks → map (λ t. t.near.tie) ties ≡ ids
      → AreLines {D = D} said roll descrs tasks [] × AreTied {D = D} said descrs tasks ids [] nothing_more nears
  begins roll descrs tasks ids ties nears e fresh count named = (
    record { shown = All-nil (λ (t : Where (Line D)). Shows roll t); numbered = λ k l at. absurd (cc at); parties = All-nil (λ (t : Where (Line D)). NamesParties descrs tasks (said t.value.deed)) },
    record {
      count = ap length e ∙ length-map ties (λ (t : Tie). t.near) ∙ count;
      tied = ap (λ (ns : List End). map (λ (n : End). n.tie) ns) e ∙ map_twice ties ∙ named;
      each = λ p n is at. all_at (λ (x : End). x.keys ≡ []) nears (seat_of descrs p) n
          (subst (λ (ns : List End). All (λ (x : End). x.keys ≡ []) ns) (sym e)
          (all_of_map (λ (x : End). x.keys ≡ []) (λ (t : Tie). t.near) ties (All-weaker IsFresh (λ (t : Tie). t.near.keys ≡ []) (λ t f. f.1) ties fresh))) at;
    },
  ) where
    map_twice : (ts : List Tie) → map (λ (n : End). n.tie) (map (λ (t : Tie). t.near) ts) ≡ map (λ (t : Tie). t.near.tie) ts
    map_twice [] = refl
    map_twice (t ∷ ts) = ap (λ ids. t.near.tie ∷ ids) (map_twice ts)

  -- the lines of a journal with one more
  pub lines_more : (roll : Shelves) (descrs tasks : ℕ) (tokens : List (Where (Line D))) (token : Where (Line D)) → AreLines said roll descrs tasks tokens
      → Shows roll token → token.value.number ≡ length tokens → NamesParties descrs tasks (said token.value.deed)
      → AreLines said roll descrs tasks (tokens ++ token ∷ [])
  lines_more roll descrs tasks tokens token kept shown next parties = record {
    shown = All-push (λ t. Shows roll t) tokens token kept.shown shown;
    numbered = λ k l at. ⊎_elim
        (λ (old : slice_get (keyed tokens) k ≡ Some l). kept.numbered k l old)
        (λ (new : (k ≡ length (keyed tokens)) × ((token.index, token.value) ≡ l)).
        ap (λ (x : Keyed D). x.1.number) (sym new.1) ∙ next ∙ sym (length-map tokens (λ (t : Where (Line D)). (t.index, t.value))) ∙ sym new.0)
        (get_more (keyed tokens) (token.index, token.value) l k (sym (ap (λ ls. slice_get ls k) (keyed_more tokens token)) ∙ at));
    parties = All-push (λ (t : Where (Line D)). NamesParties descrs tasks (said t.value.deed)) tokens token kept.parties parties;
  }

  module _ (roll : Shelves) (descrs tasks : ℕ) (ties : List TableId) (tokens : List (Where (Line D))) (room : ℕ) (token : Where (Line D)) (owed : List Bool) (nears : List End) (turn : IsTurn said roll descrs tasks ties tokens room token owed nears) where
    module _ (q : Party) (n : End) (seat : ℕ) (here : seat ≡ seat_of descrs q) (named : names (said token.value.deed) q ≡ true) where
      in_place : (k : ℕ) → k ≡ seat_of descrs q → k < length nears
      in_place k e = let bound = seat_below descrs tasks q (named_party descrs tasks (said token.value.deed) q turn.parties named) in omega (arith, turn.tied.count)

      -- the near end of a party that the turn's line names is there
      pub turn_seat : seat < length nears
      turn_seat = in_place seat here

      found : n ≡ get_or nears seat n → slice_get nears (seat_of descrs q) ≡ Some n
      found read = ap (λ k. slice_get nears k) (sym here) ∙ slice_get_read nears (length nears) seat n refl turn_seat read

      -- and is of the tie that is the journal's for the party
      pub turn_tie : (tie : TableId) → n ≡ get_or nears seat n → slice_get ties (seat_of descrs q) ≡ Some tie → n.tie ≡ tie
      turn_tie tie read at =
          let e : Some n.tie ≡ Some tie = sym (map_at (λ (e : End). e.tie) nears (seat_of descrs q) n (found read)) ∙ ap (λ ts. slice_get ts (seat_of descrs q)) turn.tied.tied ∙ at in cc

      -- it has the keys of the party's chain, where the line is owed to the party
      pub turn_before : n ≡ get_or nears seat n → slice_index_or owed (debt_of q) false ≡ true → n.keys ≡ keys_of (chain_of said q (keyed tokens))
      turn_before read due =
          before descrs tasks ties (keyed tokens) (token.index, token.value) nears owed turn.tied q n
          (named_party descrs tasks (said token.value.deed) q turn.parties named) (found read) due

      -- the turn after its line was linked to the party
      pub turn_links : (debt : ℕ) (new : End) → debt ≡ debt_of q → n ≡ get_or nears seat n → slice_index_or owed (debt_of q) false ≡ true → new.tie ≡ n.tie → new.keys ≡ n.keys ++ token.index ∷ []
          → IsTurn said roll descrs tasks ties tokens room token (set owed debt false) (set nears seat new)
      turn_links debt new e read due tie keys = record {
        before = turn.before;
        has_room = turn.has_room;
        shown = turn.shown;
        next = turn.next;
        parties = turn.parties;
        tied = subst (λ (x : ℕ × ℕ). AreTied said descrs tasks ties (keyed tokens) (linked said (token.index, token.value) (set owed x.0 false)) (set nears x.1 new)) (λ i. (sym e i, sym here i))
            (links descrs tasks ties (keyed tokens) (token.index, token.value) nears owed turn.tied q n
            (named_party descrs tasks (said token.value.deed) q turn.parties named) (found read) new named due tie keys);
      }

    -- the journal's lines and ties after the turn
    pub turn_closes : (all : List (Where (Line D))) → all ≡ tokens ++ token ∷ [] → owed ≡ owed_to_none
        → AreLines said roll descrs tasks all × AreTied said descrs tasks ties (keyed all) nothing_more nears
    turn_closes all e paid =
        subst (λ (ts : List (Where (Line D))). AreLines said roll descrs tasks ts × AreTied said descrs tasks ties (keyed ts) nothing_more nears) (sym e) (
          lines_more roll descrs tasks tokens token turn.before turn.shown turn.next turn.parties,
          subst (λ (ls : List (Keyed D)). AreTied said descrs tasks ties ls nothing_more nears) (sym (keyed_more tokens token))
              (closes descrs tasks ties (keyed tokens) (token.index, token.value) nears owed paid turn.tied),
        )

  -- a turn for a line that is the next one
  pub turn_opens : (roll : Shelves) (descrs tasks : ℕ) (ties : List TableId) (tokens : List (Where (Line D))) (room : ℕ) (token : Where (Line D)) (owed : List Bool) (nears : List End)
      → AreLines said roll descrs tasks tokens → AreTied said descrs tasks ties (keyed tokens) nothing_more nears
      → 0 < room → Shows roll token → token.value.number ≡ length (keyed tokens) → NamesParties descrs tasks (said token.value.deed) → owed ≡ owed_by (said token.value.deed)
      → IsTurn said roll descrs tasks ties tokens room token owed nears
  turn_opens roll descrs tasks ties tokens room token owed nears lines tied has_room shown next parties all = record {
    before = lines;
    has_room = has_room;
    shown = shown;
    next = next ∙ length-map tokens (λ (t : Where (Line D)). (t.index, t.value));
    parties = parties;
    tied = opens descrs tasks ties (keyed tokens) (token.index, token.value) nears owed all tied;
  }

  -- the number of the line at a place
  pub number_at : (tokens : List (Where (Line D))) (k : ℕ) (t : Where (Line D)) → AreNumbered (keyed tokens) → k < length tokens → t ≡ get_or tokens k t → t.value.number ≡ k
  number_at tokens k t numbered below read =
      numbered k (t.index, t.value) (map_at (λ (x : Where (Line D)). (x.index, x.value)) tokens k t (slice_get_read tokens (length tokens) k t refl below read))
