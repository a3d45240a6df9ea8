use Rattle.std.proofs.Common.{◌≡◌, ℕ, ◌-◌, List, ◌++◌, length, take, drop, replicate, min, ap, ◌∙◌, arith}
use Rattle.std.proofs.lemmas.List.{take_min, drop-replicate}
use Rattle.ild_data.specs.Padded.{padded}
use Rattle.ild_data.proofs.key_hash.PadKeysKeyHash.hash.Goals as goal

-- so many bytes of a key before the zeros that they leave
copied : (key : List ℕ) (m : ℕ) → m ≡ min 32 (length key) → take m key ++ drop m (replicate 32 0) ≡ padded key
copied key m is =
    ap (λ (n : ℕ). take n key ++ drop n (replicate 32 0)) is
    ∙ ap (λ (ks : List ℕ). ks ++ drop (min 32 (length key)) (replicate 32 0)) (take_min 32 key)
    ∙ ap (λ (zs : List ℕ). take 32 key ++ zs) (drop-replicate (min 32 (length key)) 32 0 ∙ ap (λ (n : ℕ). replicate n 0) (left (length key)))
  where
    left : (n : ℕ) → 32 - min 32 n ≡ 32 - n
    left n = omega arith

pub returns : goal.returns
returns c =
    let ends : (n : ℕ) → min n 32 ≡ min 32 n = λ n. omega arith in
    ap (λ (xs : List ℕ). xs ++ drop c.min-count.result (replicate 32 0)) c.copy_from_slice.ensures.after ∙ copied c.args.key.now c.min-count.result (c.min-count.ensures ∙ ends (length c.args.key.now))
