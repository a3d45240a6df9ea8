-- The entries of pairs, taken one after another.
use Rattle.std.proofs.Common.{◌≡◌, ℕ, ◌+◌, ◌<◌, List, length, [], ◌∷◌, ◌++◌, take, get_or, sym, ap, ◌∙◌}
use Rattle.std.proofs.lemmas.List.{take_more, map-append}
use Rattle.std.specs.Borrow.{Bor}
use Rattle.ild_data.specs.Data.{Data}
use Rattle.ild_hamt_samples.specs.Pairs.{entry_of, entries_of}

pub entries-more : (pairs : List (Bor (List ℕ) × ℕ)) (i : ℕ) (d : Bor (List ℕ) × ℕ) (rows new : List (List ℕ × Data)) → i < length pairs → rows ≡ entries_of (take i pairs)
    → new ≡ rows ++ entry_of (get_or pairs i d) ∷ [] → new ≡ entries_of (take (i + 1) pairs)
entries-more pairs i d rows new lt was more =
    more ∙ ap (λ xs. xs ++ entry_of (get_or pairs i d) ∷ []) was ∙ sym (map-append entry_of (take i pairs) (get_or pairs i d ∷ [])) ∙ ap entries_of (sym (take_more pairs i d lt))
