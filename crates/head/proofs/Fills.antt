-- What a fill of a list's end leaves.
use Rattle.std.proofs.Common.{◌≡◌, ℕ, ◌-◌, ◌≤◌, List, [], ◌++◌, length, take, drop, replicate, ap, ◌∙◌, append-nil, arith}
use Rattle.std.proofs.lemmas.List.{drop_all, length-drop, length-take}
use borrow.Rule.Slice.PartMut.{put_mid, post_of}
use Rattle.head.specs.Packs.{padded}

-- zeros behind what stands up to k in a list of n
pub padded_fill : {A : Type 0} (zero : A) (n k : ℕ) (list xs end : List A) → length list ≡ n → take k list ≡ xs → length xs ≡ k → k ≤ n → end ≡ replicate (length (take (n - k) (drop k list))) zero
    → put_mid k (n - k) list end ≡ padded zero n xs
padded_fill {A} zero n k list xs end l e x le f =
    let many : length (take (n - k) (drop k list)) ≡ n - length xs = omega (arith, length-take (n - k) (drop k list), length-drop k list) in
    let none : post_of k (n - k) list ≡ [] = drop_all (n - k) (drop k list) (omega (arith, length-drop k list)) in
    ap (λ (r : List A). take k list ++ (end ++ r)) none ∙ ap (λ (r : List A). r ++ (end ++ [])) e ∙ ap (λ (r : List A). xs ++ r) (append-nil end ∙ f ∙ ap (λ (m : ℕ). replicate m zero) many)
