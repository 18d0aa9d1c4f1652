-- The bytes that readings of an input have put into memory.
use Rattle.std.proofs.Common.{◌≡◌, ℕ, ◌+◌, ◌≤◌, List, ◌++◌, take, length, Some, None, Option, IfSome, sym, ap, ◌∙◌, arith, length-take-le}
use Rattle.std.proofs.lemmas.List.{take-append-le, take-take}
use Rattle.std.proofs.Math.Seq.{take-append-add}
use borrow.Rule.Slice.PartMut.{put_mid, post_of}

-- the bytes of one more call stand after those that were read before
pub read_more : (at room n : ℕ) (memory part : List ℕ) → at ≤ length memory → n ≤ length part →
    take at memory ++ take n part ≡ take (at + n) (put_mid at room memory part)
read_more at room n memory part l m =
    let e : length (take at memory) ≡ at = length-take-le at memory l in
    let after = post_of at room memory in
    sym ((λ i. take (sym e i + n) (take at memory ++ (part ++ after)))
    ∙ (take-append-add (take at memory) (part ++ after) n ∙ ap (λ x. take at memory ++ x) (take-append-le n part after m)))

-- the bytes that were read, without the memory that is left, are the input's first bytes
pub read_whole : (input : Option (List ℕ)) (memory rest bytes : List ℕ) (n room most : ℕ) → n ≤ length memory → length memory ≡ most → room ≡ most →
    bytes ≡ take n (take room (memory ++ rest)) → IfSome input (λ all. take n memory ≡ take (length memory) all) → IfSome input (λ all. bytes ≡ take most all)
read_whole None memory rest bytes n room most l e r f h = tt
read_whole (Some all) memory rest bytes n room most l e r f h =
    f ∙ (take-take n room (memory ++ rest) (omega arith) ∙ (take-append-le n memory rest l ∙ (h ∙ ap (λ k. take k all) e)))
