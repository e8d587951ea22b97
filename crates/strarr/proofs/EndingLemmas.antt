-- That a run without a fault has a status that it may have, and what it ended with by the output of its command.
use Rattle.std.proofs.Common.{◌≡◌, ◌≢◌, ◌⊎◌, ℕ, ◌<◌, ◌≤◌, nat_lt, Bool, true, false, cond, List, [], ◌++◌, length, Option, Some, None, option_map, IfSome, refl, sym, ap, ◌∙◌, subst, inl, inr, arith, length-append, append-nil}
use Rattle.std.specs.Io.KnownBytes.{Consumes, IsAtEnd}
use Rattle.sa_base.specs.Streams.{Stream}
use Rattle.std.proofs.lemmas.Bool.{lt-ltb}
use Rattle.std.proofs.lemmas.Bool.Decides.{nat_tests}
use Rattle.strarr.specs.Endings.{Ends, Completes}
use Rattle.strarr.specs.Outputs.{GivenBy, MayAnswer, MayGive, answer_of, command_of, output_for, output_of, reads_script, summary_for, workers_in}
use Rattle.strarr.specs.declared.words.Command.{Command}
use Rattle.strarr.specs.declared.words.Command.TheVariants as command
use Rattle.strarr.specs.declared.status.Status.{Status}
use Rattle.strarr.specs.declared.status.Status.TheVariants as status

-- bytes that were taken to the end are the input
whole-input : (P : List ℕ → Type 0) (old new : Option (List ℕ)) (xs : List ℕ) → Consumes old new xs → IsAtEnd new → P xs → IfSome old P
whole-input P None new xs p q h = tt
whole-input P (Some a) None xs p q h = absurd p
whole-input P (Some a) (Some b) xs p q h = subst P (sym (p ∙ ap (λ r. xs ++ r) q ∙ append-nil xs)) h

-- an input of which more bytes were taken than a script may have
long-input : (P : List ℕ → Type 0) (old new : Option (List ℕ)) (xs : List ℕ) → Consumes old new xs → length xs ≡ 4194305 → ((a : List ℕ) → 4194304 < length a → P a) → IfSome old P
long-input P None new xs p long h = tt
long-input P (Some a) None xs p long h = absurd p
long-input P (Some a) (Some b) xs p long h = h a (omega (arith, ap length p, length-append xs b))

-- what may be given, by its type
abbrev pub Given : Type 1
Given = List ℕ → Status → List ℕ → Type 0

completes : (gives : Given) (source source' sink sink' : Stream) (stat : Status)
    → ((a : List ℕ) → 4194304 < length a → gives a status.LongScript [])
    → stat ≢ status.Words → Ends true gives source source' sink sink' stat → Completes true gives source source' sink sink' stat
completes gives source source' sink sink' status.Done over other e no_read no_write = whole-input _ source.bytes source'.bytes e.0 e.2.taken.taken e.2.ended (inl (e.1, e.3))
completes gives source source' sink sink' status.Script over other e no_read no_write = whole-input _ source.bytes source'.bytes e.0 e.2.taken.taken e.2.ended (inl (e.1, e.3))
completes gives source source' sink sink' status.Words over other e no_read no_write = absurd (other refl)
completes gives source source' sink sink' status.ReadFault over other e no_read no_write = absurd (no_read e.0.3)
completes gives source source' sink sink' status.WriteFault over other e no_read no_write = absurd (no_write e.5.2)
completes gives source source' sink sink' status.NoMemory over other e no_read no_write = no-memory source.bytes
  where
    no-memory : (old : Option (List ℕ)) → IfSome old (λ input. ((bytes : List ℕ) × gives input status.NoMemory bytes) ⊎ (status.NoMemory ≡ status.NoMemory))
    no-memory None = tt
    no-memory (Some a) = inr refl
completes gives source source' sink sink' status.LongScript over other e no_read no_write =
    long-input _ source.bytes source'.bytes e.0.0 e.0.1.taken (omega (arith, e.0.2)) (λ a long. inl ([], over a long))

-- the same where no input is read
completes-unread : (gives : Given) (source source' sink sink' : Stream) (stat : Status)
    → stat ≢ status.Words → Ends false gives source source' sink sink' stat → Completes false gives source source' sink sink' stat
completes-unread gives source source' sink sink' status.Done other e no_read no_write = inl (e.1, subst (λ input. gives input status.Done e.1) e.2.1 e.3)
completes-unread gives source source' sink sink' status.Script other e no_read no_write = inl (e.1, subst (λ input. gives input status.Script e.1) e.2.1 e.3)
completes-unread gives source source' sink sink' status.Words other e no_read no_write = absurd (other refl)
completes-unread gives source source' sink sink' status.ReadFault other e no_read no_write = let same : status.ReadFault ≡ status.NoMemory = e.0.0 in absurd (cc)
completes-unread gives source source' sink sink' status.WriteFault other e no_read no_write = absurd (no_write e.5.2)
completes-unread gives source source' sink sink' status.NoMemory other e no_read no_write = inr refl
completes-unread gives source source' sink sink' status.LongScript other e no_read no_write = let same : status.LongScript ≡ status.NoMemory = e.0.0 in absurd (cc)

-- what ended by the answer to an input that is not too long ended by the output for it
ends-within : (gives given : Given) (source source' sink sink' : Stream) (stat : Status)
    → ((input : List ℕ) (s : Status) (bytes : List ℕ) → length input ≤ 4194304 → gives input s bytes → given input s bytes)
    → Ends true gives source source' sink sink' stat → Ends true given source source' sink sink' stat
ends-within gives given source source' sink sink' status.Done more e = (e.0, e.1, e.2, more e.0 status.Done e.1 e.2.limit e.3, e.4)
ends-within gives given source source' sink sink' status.Script more e = (e.0, e.1, e.2, more e.0 status.Script e.1 e.2.limit e.3, e.4)
ends-within gives given source source' sink sink' status.Words more e = e
ends-within gives given source source' sink sink' status.ReadFault more e = e
ends-within gives given source source' sink sink' status.WriteFault more e = (e.0, e.1, e.2, e.3, more e.0 e.1 e.2 e.3.limit e.4, e.5)
ends-within gives given source source' sink sink' status.NoMemory more e = e
ends-within gives given source source' sink sink' status.LongScript more e = e

-- the output of `serial` for an input that is not too long, and for one that is
output-within : (input : List ℕ) → length input ≤ 4194304 → output_for (Some command.Serial) input ≡ answer_of input
output-within input few = grind (arith, nat_tests)

serial-within : (input : List ℕ) (stat : Status) (bytes : List ℕ) → length input ≤ 4194304 → GivenBy answer_of input stat bytes → GivenBy (output_for (Some command.Serial)) input stat bytes
serial-within input stat bytes few given = given ∙ sym (output-within input few)

serial-over : (input : List ℕ) → 4194304 < length input → GivenBy (output_for (Some command.Serial)) input status.LongScript []
serial-over input long = go (nat_lt 4194304 (length input)) (lt-ltb 4194304 (length input) long)
  where
    go : (b : Bool) → b ≡ true → (status.LongScript, []) ≡ cond b (status.LongScript, []) (answer_of input)
    go true is = refl
    go false is = absurd (cc)

-- the output of a run in threads for an input that is not too long, and for one that is
run-within : (n : ℕ) (input : List ℕ) (stat : Status) (bytes : List ℕ) → length input ≤ 4194304 → MayAnswer input stat bytes → MayGive (Some (command.Run n)) input stat bytes
run-within n input stat bytes few may = inr (few, may)

run-over : (n : ℕ) (a : List ℕ) → 4194304 < length a → MayGive (Some (command.Run n)) a status.LongScript []
run-over n a long = inl (record { long = long; status_is = refl; nothing = refl })

-- what the answer to an input makes of the output of its command

pub still-ends : (words : List (List ℕ)) (source source' sink sink' : Stream) (stat : Status) → command_of words ≡ Some command.Serial
    → Ends true (GivenBy answer_of) source source' sink sink' stat → Ends (reads_script (command_of words)) (GivenBy (output_of words)) source source' sink sink' stat
still-ends words source source' sink sink' stat is e =
    subst (λ (c : Option Command). Ends (reads_script c) (GivenBy (output_for c)) source source' sink sink' stat) (sym is) (ends-within (GivenBy answer_of) (GivenBy (output_for (Some command.Serial))) source source' sink sink' stat serial-within e)

pub still-completes : (words : List (List ℕ)) (source source' sink sink' : Stream) (stat : Status) → command_of words ≡ Some command.Serial → stat ≢ status.Words
    → Ends true (GivenBy answer_of) source source' sink sink' stat → Completes (reads_script (command_of words)) (GivenBy (output_of words)) source source' sink sink' stat
still-completes words source source' sink sink' stat is other e =
    subst (λ (c : Option Command). Completes (reads_script c) (GivenBy (output_for c)) source source' sink sink' stat) (sym is)
    (completes (GivenBy (output_for (Some command.Serial))) source source' sink sink' stat serial-over other
    (ends-within (GivenBy answer_of) (GivenBy (output_for (Some command.Serial))) source source' sink sink' stat serial-within e))

pub sample-ends : (words : List (List ℕ)) (number : ℕ) (source sink sink' : Stream) (stat : Status) → command_of words ≡ Some (command.Sample number)
    → Ends false (GivenBy (λ input. (status.Done, summary_for number))) source source sink sink' stat → Ends (reads_script (command_of words)) (GivenBy (output_of words)) source source sink sink' stat
sample-ends words number source sink sink' stat is e =
    subst (λ (c : Option Command). Ends (reads_script c) (GivenBy (output_for c)) source source sink sink' stat) (sym is) e

pub sample-completes : (words : List (List ℕ)) (number : ℕ) (source sink sink' : Stream) (stat : Status) → command_of words ≡ Some (command.Sample number) → stat ≢ status.Words
    → Ends false (GivenBy (λ input. (status.Done, summary_for number))) source source sink sink' stat → Completes (reads_script (command_of words)) (GivenBy (output_of words)) source source sink sink' stat
sample-completes words number source sink sink' stat is other e =
    subst (λ (c : Option Command). Completes (reads_script c) (GivenBy (output_for c)) source source sink sink' stat) (sym is)
    (completes-unread (GivenBy (λ input. (status.Done, summary_for number))) source source sink sink' stat other e)

pub run-ends : (words : List (List ℕ)) (n : ℕ) (source source' sink sink' : Stream) (stat : Status) → command_of words ≡ Some (command.Run n)
    → Ends true MayAnswer source source' sink sink' stat → Ends (reads_script (command_of words)) (MayGive (command_of words)) source source' sink sink' stat
run-ends words n source source' sink sink' stat is e =
    subst (λ (c : Option Command). Ends (reads_script c) (MayGive c) source source' sink sink' stat) (sym is) (ends-within MayAnswer (MayGive (Some (command.Run n))) source source' sink sink' stat (run-within n) e)

pub run-completes : (words : List (List ℕ)) (n : ℕ) (source source' sink sink' : Stream) (stat : Status) → command_of words ≡ Some (command.Run n) → stat ≢ status.Words
    → Ends true MayAnswer source source' sink sink' stat → Completes (reads_script (command_of words)) (MayGive (command_of words)) source source' sink sink' stat
run-completes words n source source' sink sink' stat is other e =
    subst (λ (c : Option Command). Completes (reads_script c) (MayGive c) source source' sink sink' stat) (sym is)
    (completes (MayGive (Some (command.Run n))) source source' sink sink' stat (run-over n) other
    (ends-within MayAnswer (MayGive (Some (command.Run n))) source source' sink sink' stat (run-within n) e))

some-is-no-none : (n : ℕ) → Some n ≡ None → ⊥
some-is-no-none n is = cc

-- a command that asks for workers
pub asks-workers : (c : Option Command) (n : ℕ) → workers_in c ≡ Some n → c ≡ Some (command.Run n)
asks-workers None n is = absurd (some-is-no-none n (sym is))
asks-workers (Some command.Serial) n is = absurd (some-is-no-none n (sym is))
asks-workers (Some (command.Sample m)) n is = absurd (some-is-no-none n (sym is))
asks-workers (Some (command.Run m)) n is = ap (λ (o : Option ℕ). option_map command.Run o) is

-- The output of a command that performs no threads is the one output of the call that waits for nobody.

pub waits-ends : (words : List (List ℕ)) (source source' sink sink' : Stream) (stat : Status) → workers_in (command_of words) ≡ None
    → Ends (reads_script (command_of words)) (GivenBy (output_of words)) source source' sink sink' stat → Ends (reads_script (command_of words)) (MayGive (command_of words)) source source' sink sink' stat
waits-ends words source source' sink sink' stat other e = go (command_of words) other e
  where
    go : (c : Option Command) → workers_in c ≡ None
        → Ends (reads_script c) (GivenBy (output_for c)) source source' sink sink' stat → Ends (reads_script c) (MayGive c) source source' sink sink' stat
    go None other e = e
    go (Some command.Serial) other e = e
    go (Some (command.Sample n)) other e = e
    go (Some (command.Run n)) other e = absurd (some-is-no-none n other)

pub waits-completes : (words : List (List ℕ)) (source source' sink sink' : Stream) (stat : Status) → workers_in (command_of words) ≡ None
    → Completes (reads_script (command_of words)) (GivenBy (output_of words)) source source' sink sink' stat → Completes (reads_script (command_of words)) (MayGive (command_of words)) source source' sink sink' stat
waits-completes words source source' sink sink' stat other e = go (command_of words) other e
  where
    go : (c : Option Command) → workers_in c ≡ None
        → Completes (reads_script c) (GivenBy (output_for c)) source source' sink sink' stat → Completes (reads_script c) (MayGive c) source source' sink sink' stat
    go None other e = e
    go (Some command.Serial) other e = e
    go (Some (command.Sample n)) other e = e
    go (Some (command.Run n)) other e = absurd (some-is-no-none n other)
