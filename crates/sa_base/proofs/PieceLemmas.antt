-- A piece at the front of a buffer, and the bytes behind it that are left.
use Rattle.std.proofs.Common.{◌≡◌, ℕ, ◌+◌, List, ◌++◌, length, take, drop, arith}
use Rattle.std.proofs.Math.Seq.{take_all}
use Rattle.std.proofs.lemmas.List.{take-append-drop, take-append-le, drop-drop}

pub piece-and-rest : (bytes piece behind : List ℕ) (place n : ℕ) → piece ≡ take n (drop place bytes) → length piece ≡ n
    → drop place bytes ≡ take n (piece ++ behind) ++ drop (place + n) bytes
piece-and-rest bytes piece behind place n same long =
    let whole = take-append-drop n (drop place bytes) in
    let rest = drop-drop n place bytes in
    let cut = take-append-le n piece behind (omega arith) in
    let all = take_all n piece (omega arith) in
    cc
