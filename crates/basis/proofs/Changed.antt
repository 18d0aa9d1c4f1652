-- Places that are changed one after another, the first first: what one more change makes of them.
use Rattle.std.proofs.Common.{◌≡◌, ℕ, ◌+◌, ◌<◌, List, [], ◌∷◌, ◌++◌, length, map, take, drop, set, get_or, sym, ap, ◌∙◌, arith}
use Rattle.std.proofs.lemmas.List.{take_more_set, map_more, get_or-drop, drop-set-lt, drop-drop}

-- the places up to it hold what a function makes of the entries that were there
pub made_more : {T : Type 0} (h : T → T) (now old : List T) (n : ℕ) (x d : T) → n < length now → n < length old →
    x ≡ h (get_or old n d) → take n now ≡ map h (take n old) → take (n + 1) (set now n x) ≡ map h (take (n + 1) old)
made_more h now old n x d l k e made =
    take_more_set now n x l ∙ ((λ i. made i ++ (e i ∷ [])) ∙ sym (map_more h old n d k))

-- the entry at hand is as it was, and so are those after it
pub entry_same : {T : Type 0} (now old : List T) (i : ℕ) (d : T) → drop i now ≡ drop i old → get_or now i d ≡ get_or old i d
entry_same now old i d later =
    let e : i ≡ i + 0 = omega arith in
    ap (λ k. get_or now k d) e ∙ (sym (get_or-drop i now 0 d) ∙ (ap (λ xs. get_or xs 0 d) later ∙ (get_or-drop i old 0 d ∙ ap (λ k. get_or old k d) (sym e))))

pub later_same : {T : Type 0} (now old : List T) (i : ℕ) (x : T) → drop i now ≡ drop i old → drop (i + 1) (set now i x) ≡ drop (i + 1) old
later_same now old i x later =
    drop-set-lt _ now i x (omega arith) ∙ (sym (drop-drop 1 i now) ∙ (ap (λ xs. drop 1 xs) later ∙ drop-drop 1 i old))
