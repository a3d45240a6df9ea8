-- Declarations, one after the other: the rows of those before, and what is left.
use Rattle.std.proofs.Common.{◌≡◌, ◌⊎◌, ℕ, ◌+◌, ◌≤◌, List, ◌∷◌, ◌++◌, Option, Some, None, length, length-append, refl, ap, sym, ◌∙◌}
use Rattle.std.specs.List.{flat_map}
use Rattle.ild_parse_grammar.specs.declared.ast.Decl.{Decl}
use Rattle.ild_schema.specs.declared.row.Row.{Row}
use Rattle.ild_resolve.specs.Events.{decl_events, types_in}
use Rattle.ild_resolve.specs.Faults.{first_wrong}
use Rattle.ild_resolve.specs.Rows.{decl_rows, decls_rows}
use Rattle.ild_resolve.specs.declared.error.ResolveErr.{ResolveErr}
use Rattle.ild_resolve.specs.declared.error.ResolveErr.TheVariants as E
use Rattle.ild_resolve.proofs.Counts.{decl_count}
use Rattle.ild_resolve.proofs.PartsLeft.{PartsLeft, PartFirst, part-room, part-wrong, part-next}

abbrev pub DeclsLeft : (List ℕ → Option ℕ) → List Row → List Decl → List Row → List Decl → Type 0
DeclsLeft numbers before all rows left = PartsLeft numbers (flat_map decl_events all) (before ++ decls_rows numbers (length before) all) rows (flat_map decl_events left) (decls_rows numbers (length rows) left)

module _ (numbers : List ℕ → Option ℕ) (before : List Row) (all : List Decl) (rows : List Row) (d : Decl) (left : List Decl) (h : DeclsLeft numbers before all rows (d ∷ left)) where
  abbrev pub its : List Row
  its = decl_rows numbers (length rows) d

  decl_first : (n : ℕ) → n ≡ length rows + length its
      → PartFirst numbers (decl_events d) its (flat_map decl_events (d ∷ left)) (flat_map decl_events left) (decls_rows numbers (length rows) (d ∷ left)) (decls_rows numbers n left)
  decl_first n size = record {
    words = refl;
    types = refl;
    rows = ap (λ k. its ++ decls_rows numbers k left) (sym size);
    count = decl_count numbers (length rows) d;
  }

  pub decls_left-room : length rows + types_in (decl_events d) ≤ 65543
  decls_left-room = part-room _ _ _ _ _ _ _ _ _ _ h (decl_first _ refl)

  pub decls_left-wrong : (e : ResolveErr) → (e ≡ E.Memory) ⊎ (first_wrong numbers (decl_events d) ≡ Some e) → (e ≡ E.Memory) ⊎ (first_wrong numbers (flat_map decl_events all) ≡ Some e)
  decls_left-wrong e wrong = part-wrong _ _ _ _ _ _ _ _ _ _ h (decl_first _ refl) e wrong

  pub decls_left-next : (more : List Row) → first_wrong numbers (decl_events d) ≡ None → more ≡ rows ++ its → DeclsLeft numbers before all more left
  decls_left-next more right is = part-next _ _ _ _ _ _ _ _ _ _ h (decl_first (length more) (ap length is ∙ length-append rows _)) more right is
