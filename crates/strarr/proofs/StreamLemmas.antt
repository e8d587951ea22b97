-- What reading and writing in pieces make of streams.
use Rattle.std.proofs.Common.{◌≡◌, ℕ, ◌+◌, ◌-◌, ◌≤◌, List, [], ◌++◌, length, take, drop, Option, Some, None, refl, sym, ap, ◌∙◌, arith, length-append, length-drop, append_assoc, append-nil}
use Rattle.std.proofs.Math.Seq.{take-add, take_all}
use Rattle.std.specs.Io.KnownBytes.{Appends, Consumes, Keeps}
use Rattle.sa_base.specs.Streams.{Stream, Rose, StreamTakes, StreamGains, StreamFails, StreamEnds}
use Rattle.strarr.specs.Endings.{StopsBehind}
use Rattle.strarr.specs.declared.status.Status.{Status}
use Rattle.strarr.specs.declared.status.Status.TheVariants as status

-- bytes that are taken behind bytes that were taken
pub consumes-more : (old now new : Option (List ℕ)) (xs ys : List ℕ) → Consumes old now xs → Consumes now new ys → Consumes old new (xs ++ ys)
consumes-more None now new xs ys p q = tt
consumes-more (Some a) None new xs ys p q = absurd p
consumes-more (Some a) (Some b) None xs ys p q = absurd q
consumes-more (Some a) (Some b) (Some c) xs ys p q = p ∙ ap (λ r. xs ++ r) q ∙ sym (append_assoc xs ys c)

pub consumes-kept : (old now new : Option (List ℕ)) (xs : List ℕ) → Consumes old now xs → Keeps now new → Consumes old new xs
consumes-kept None now new xs p q = tt
consumes-kept (Some a) None new xs p q = absurd p
consumes-kept (Some a) (Some b) None xs p q = absurd q
consumes-kept (Some a) (Some b) (Some c) xs p q = p ∙ ap (λ r. xs ++ r) (sym q)

pub consumes-none : (old : Option (List ℕ)) → Consumes old old []
consumes-none None = tt
consumes-none (Some a) = refl

-- bytes that are written behind bytes that were written
pub appends-more : (old now new : Option (List ℕ)) (xs ys : List ℕ) → Appends old now xs → Appends now new ys → Appends old new (xs ++ ys)
appends-more None now new xs ys p q = tt
appends-more (Some a) None new xs ys p q = absurd p
appends-more (Some a) (Some b) None xs ys p q = absurd q
appends-more (Some a) (Some b) (Some c) xs ys p q = q ∙ ap (λ r. r ++ ys) p ∙ append_assoc a xs ys

pub appends-kept : (old now new : Option (List ℕ)) (xs : List ℕ) → Appends old now xs → Keeps now new → Appends old new xs
appends-kept None now new xs p q = tt
appends-kept (Some a) None new xs p q = absurd p
appends-kept (Some a) (Some b) None xs p q = absurd q
appends-kept (Some a) (Some b) (Some c) xs p q = q ∙ p

pub appends-none : (old : Option (List ℕ)) → Appends old old []
appends-none None = tt
appends-none (Some a) = sym (append-nil a)

-- a piece behind those that were taken
pub takes-more : (source now source' : Stream) (text part : List ℕ) → StreamTakes source now text → StreamTakes now source' part → StreamTakes source source' (text ++ part)
takes-more source now source' text part p q = record {
  taken = consumes-more source.bytes now.bytes source'.bytes text part p.taken q.taken;
  faults = q.faults ∙ p.faults;
}

-- a piece behind those that were written
pub gains-more : (sink now sink' : Stream) (bytes : List ℕ) (done n : ℕ) → StreamGains sink now (take done bytes) → StreamGains now sink' (take n (drop done bytes))
    → StreamGains sink sink' (take (done + n) bytes)
gains-more sink now sink' bytes done n p q = rw (take-add done n bytes) (record {
  written = appends-more sink.bytes now.bytes sink'.bytes (take done bytes) (take n (drop done bytes)) p.written q.written;
  faults = q.faults ∙ p.faults;
})

-- a count that rose from what it was
pub rose-from : (before now after : ℕ) → now ≡ before → Rose now after → Rose before after
rose-from before now after same rose = rw same at rose

-- reading that stopped behind a text that was taken
pub stops-more : (source now source' : Stream) (text : List ℕ) (stat : Status) → StreamTakes source now text → StopsBehind (length text) now source' stat → StopsBehind 0 source source' stat
stops-more source now source' text status.ReadFault p s =
    (text ++ s.0, consumes-more source.bytes now.bytes source'.bytes text s.0 p.taken s.1, omega (arith, length-append text s.0, s.2), rose-from source.faults now.faults source'.faults p.faults s.3)
stops-more source now source' text status.NoMemory p s =
    (text ++ s.0, takes-more source now source' text s.0 p s.1, omega (arith, length-append text s.0, s.2))
stops-more source now source' text status.LongScript p s =
    (text ++ s.0, takes-more source now source' text s.0 p s.1, omega (arith, length-append text s.0, s.2))
stops-more source now source' text status.Done p s = absurd s
stops-more source now source' text status.Words p s = absurd s
stops-more source now source' text status.Script p s = absurd s
stops-more source now source' text status.WriteFault p s = absurd s

-- a read that failed behind this many bytes
pub fails-behind : (n : ℕ) (source source' : Stream) → n ≤ 4194304 → StreamFails source source' → StopsBehind n source source' status.ReadFault
fails-behind n source source' few f =
    ([], consumes-kept source.bytes source.bytes source'.bytes [] (consumes-none source.bytes) f.bytes, omega (arith, few), f.faults)

-- a write of what is left takes at most that
pub left-whole : (bytes : List ℕ) (done : ℕ) → take (length bytes - done) (drop done bytes) ≡ drop done bytes
left-whole bytes done = take_all (length bytes - done) (drop done bytes) (omega (arith, length-drop done bytes))

-- the end of a source, behind which nothing is taken
pub ends-empty : (source source' : Stream) → StreamEnds source source' → StreamTakes source source' []
ends-empty source source' e = record {
  taken = consumes-kept source.bytes source.bytes source'.bytes [] (consumes-none source.bytes) e.bytes;
  faults = e.faults;
}
