-- Parts of a text, one after the other: the rows of those before, and what is left.
use Rattle.std.proofs.Common.{◌≡◌, ◌⊎◌, ℕ, ◌+◌, ◌≤◌, List, [], ◌∷◌, ◌++◌, Option, Some, None, length, length-append, append_assoc, refl, ap, sym, ◌∙◌, arith}
use Rattle.ild_schema.specs.declared.row.Row.{Row}
use Rattle.ild_resolve.specs.Events.{Event, types_in}
use Rattle.ild_resolve.specs.Faults.{first_wrong}
use Rattle.ild_resolve.specs.declared.error.ResolveErr.{ResolveErr}
use Rattle.ild_resolve.specs.declared.error.ResolveErr.TheVariants as E
use Rattle.ild_resolve.proofs.Words.{first_wrong-append, wrong-first}
use Rattle.ild_resolve.proofs.Counts.{types_in-append}

-- of all that the parts say, and of all rows that there will be, these rows stand, and this is left
pub record PartsLeft (numbers : List ℕ → Option ℕ) (said : List Event) (all rows : List Row) (events : List Event) (more : List Row) : Type 0 where
  pub words : first_wrong numbers said ≡ first_wrong numbers events
  pub appended : all ≡ rows ++ more
  pub room : length rows + types_in events ≤ 65543

-- a part stands first in what is left: what is looked up of it and its rows, and the rest behind it
pub record PartFirst (numbers : List ℕ → Option ℕ) (looked : List Event) (its : List Row) (events rest : List Event) (more behind : List Row) : Type 0 where
  pub words : first_wrong numbers events ≡ first_wrong numbers (looked ++ rest)
  pub types : types_in events ≡ types_in (looked ++ rest)
  pub rows : more ≡ its ++ behind
  pub count : length its ≡ types_in looked

module _ (numbers : List ℕ → Option ℕ) (said : List Event) (all rows : List Row) (events : List Event) (more : List Row) (looked : List Event) (its : List Row) (rest : List Event) (behind : List Row)
    (h : PartsLeft numbers said all rows events more) (part : PartFirst numbers looked its events rest more behind) where
  -- there is room for the inline types of the part
  pub part-room : length rows + types_in looked ≤ 65543
  part-room = omega (arith, h.room, part.types, types_in-append looked rest)

  -- what is wrong with the part is the first that is wrong
  pub part-wrong : (e : ResolveErr) → (e ≡ E.Memory) ⊎ (first_wrong numbers looked ≡ Some e) → (e ≡ E.Memory) ⊎ (first_wrong numbers said ≡ Some e)
  part-wrong e wrong = rw (h.words, part.words) (wrong-first numbers looked rest e wrong)

  -- behind the part and its rows the rest is left
  pub part-next : (new : List Row) → first_wrong numbers looked ≡ None → new ≡ rows ++ its → PartsLeft numbers said all new rest behind
  part-next new right is = record {
    words = h.words ∙ part.words ∙ first_wrong-append numbers looked rest ∙ rw right refl;
    appended = h.appended ∙ ap (λ xs. rows ++ xs) part.rows ∙ sym (append_assoc rows its behind) ∙ ap (λ xs. xs ++ behind) (sym is);
    room = omega (arith, h.room, part.types, types_in-append looked rest, part.count, ap length is, length-append rows its);
  }

-- what was made of the parts before, and of one more
pub made-next : {A : Type 0} (all made added : List A) (a : A) (rest : List A) → all ≡ made ++ a ∷ rest → added ≡ made ++ a ∷ [] → all ≡ added ++ rest
made-next all made added a rest h is = h ∙ sym (append_assoc made (a ∷ []) rest) ∙ ap (λ xs. xs ++ rest) (sym is)
