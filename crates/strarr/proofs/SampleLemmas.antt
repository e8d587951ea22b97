-- What performing a sample gives, and how it ends.
use Rattle.std.proofs.Common.{◌≡◌, ◌≢◌, ℕ, false, List, [], length, Result, Ok, Err, refl, sym, ap, ◌∙◌, subst}
use Rattle.std.specs.Result.{MatchResult}
use Rattle.sa_base.specs.Streams.{Stream}
use Rattle.sa_loop.specs.Histories.{serial}
use Rattle.sa_script.specs.Scripts.{ScriptValue, either, meaning}
use Rattle.sa_sample.specs.Laws.{SamplesAreScripts}
use Rattle.sa_sample.specs.Samples.{sample_of}
use Rattle.sa_report.specs.Summaries.{summary_of_play}
use Rattle.strarr.specs.Endings.{Ends, Responds}
use Rattle.strarr.specs.Outputs.{GivenBy, summary_for}
use Rattle.strarr.specs.declared.status.Status.{Status}
use Rattle.strarr.specs.declared.status.Status.TheVariants as status

ok-is-no-fault : (r : Result ScriptValue (ℕ × ℕ)) (script : ScriptValue) (fault : ℕ × ℕ) → r ≡ Ok script → r ≡ Err fault → ⊥
ok-is-no-fault (Ok a) script fault is other = cc
ok-is-no-fault (Err b) script fault is other = cc

-- a sample has no fault
pub no-fault : (bytes : List ℕ) (number code line : ℕ) → SamplesAreScripts → bytes ≡ sample_of number → meaning bytes ≡ Err (code, line) → ⊥
no-fault bytes number code line law same fault = let is = law number in ok-is-no-fault (meaning bytes) is.0 (code, line) (ap meaning same ∙ is.1) fault

-- the summary of what the bytes of a sample are
pub sampled : (number size : ℕ) (text : List ℕ) (script : ScriptValue) (pairs : List (ℕ × ℕ)) (bytes : List ℕ) → text ≡ sample_of number → meaning text ≡ Ok script → size ≡ length text → pairs ≡ serial script.tasks
    → bytes ≡ summary_of_play number size script pairs (λ task call. false) → bytes ≡ summary_for number
sampled number size text script pairs bytes same read sized order made =
    made
    ∙ (ap (λ n. summary_of_play number n script pairs (λ task call. false)) (sized ∙ ap (λ (t : List ℕ). length t) same)
    ∙ (ap (λ ps. summary_of_play number (length (sample_of number)) script ps (λ task call. false)) order
    ∙ sym (ap (λ (m : Result ScriptValue (ℕ × ℕ)). either m (λ s. summary_of_play number (length (sample_of number)) s (serial s.tasks) (λ task call. false)) (λ fault. [])) (ap meaning (sym same) ∙ read))))

-- what writing a summary gives
pub sample-responds : (number : ℕ) (bytes : List ℕ) (source sink sink' : Stream) (response : Result Status Status) → bytes ≡ summary_for number → Responds (status.Done, bytes) sink sink' response
    → MatchResult response (Ends false (GivenBy (λ input. (status.Done, summary_for number))) source source sink sink') (Ends false (GivenBy (λ input. (status.Done, summary_for number))) source source sink sink')
sample-responds number bytes source sink sink' (Ok stat) same r =
    subst (λ (s : Status). Ends false (GivenBy (λ input. (status.Done, summary_for number))) source source sink sink' s) (sym r.0) ([], bytes, (refl, refl), ap (λ b. (status.Done, b)) same, r.1)
sample-responds number bytes source sink sink' (Err stat) same r =
    subst (λ (s : Status). Ends false (GivenBy (λ input. (status.Done, summary_for number))) source source sink sink' s) (sym r.0) ([], status.Done, bytes, (refl, refl), ap (λ b. (status.Done, b)) same, r.1)

-- with every status but that of a failed write no write has failed
pub sample-keeps : (gives : List ℕ → Status → List ℕ → Type 0) (source sink sink' : Stream) (stat : Status) → Ends false gives source source sink sink' stat → stat ≢ status.WriteFault → sink'.faults ≡ sink.faults
sample-keeps gives source sink sink' status.Done e other = e.4.faults
sample-keeps gives source sink sink' status.Script e other = e.4.faults
sample-keeps gives source sink sink' status.Words e other = ap (λ (s : Stream). s.faults) e.1
sample-keeps gives source sink sink' status.ReadFault e other = ap (λ (s : Stream). s.faults) e.1
sample-keeps gives source sink sink' status.WriteFault e other = absurd (other refl)
sample-keeps gives source sink sink' status.NoMemory e other = ap (λ (s : Stream). s.faults) e.1
sample-keeps gives source sink sink' status.LongScript e other = ap (λ (s : Stream). s.faults) e.1
