-- Bytes behind a prefix: what is written of them, and that they are no shorter.
use Rattle.std.proofs.Common.{◌≡◌, inl, inr, ⊎_elim, ℕ, ◌+◌, List, [], ◌++◌, length, Some, ap, ◌∙◌, arith, Result, subst}
use Rattle.std.specs.Prelude.{OnOk}
use Rattle.std.proofs.lemmas.List.{length-append}
use Rattle.ild_data.specs.Spell.{spell_bytes}
use Rattle.ild_schema.specs.declared.number.Slot.{Slot}
use Rattle.ild_schema.specs.declared.def.UnionForm.TheVariants as UF
use Rattle.ild_schema.specs.declared.row.Row.{Row}
use Rattle.ild_data.specs.Hex.{bytes_of_hex}
use Rattle.ild_schema.specs.Value.{Value}
use Rattle.ild_typed.specs.Hamt.{whole}
use Rattle.ild_build_leaf.specs.Made.{made}
use Rattle.ild_build_entries.specs.declared.nodes.Nodes.{Nodes}
use Rattle.ild_build_entries.proofs.Marked.{on_ok}
use Rattle.ild_build_pass.specs.inside.Fronts.{JoinsPrefix}
use Rattle.ild_build_pass.specs.inside.Made.{marked_made}
use Rattle.ild_build_pass.specs.Weights.{weigh}
use Rattle.ild_build_pass.specs.Writes.{Exact, TooLong, Writes}
use Rattle.ild_build_pass.proofs.Flow.{over_more}
use Rattle.ild_build_pass.proofs.UnionForms.{prefixed_from}
use Rattle.ild_data.proofs.HeadSizes.{bytes_more}

-- ---- what is written

module _ (hash : List ℕ → List ℕ) (rows : List Row) (s : Slot) (v : Value) (digits : List ℕ) where
  pub prefixed : (old new spelled bytes : List ℕ) (was now : Nodes) → ((front rest : List ℕ) → bytes_of_hex digits ≡ Some front → spelled ≡ spell_bytes rest → bytes ≡ front ++ rest) → new ≡ old ++ spell_bytes bytes
      → Writes hash rows (made (whole hash) rows s v) (λ μ. weigh μ rows s v) [] spelled was now
      → Writes hash rows (marked_made (whole hash) rows UF.BytesPrefix s v digits) (λ μ. weigh μ rows s v) old new was now
  prefixed old new spelled bytes was now read is w = record {
    grown = record { more = spell_bytes bytes; is = is };
    added = w.added;
    blocks = w.blocks;
    follows = w.follows;
    exhausted = w.exhausted;
    stays = w.stays;
    exact = λ fine t e.
        let p = prefixed_from hash rows s v digits t e in
        ⊎_elim
        (λ (k : Exact hash rows (λ μ. weigh μ rows s v) (spell_bytes p.rest) [] spelled w.added now). inl (record {
          spelled = is ∙ ap (λ b. old ++ spell_bytes b) (read p.front p.rest p.known k.spelled) ∙ ap (λ y. old ++ y) p.is;
          blocks = k.blocks;
          placed = k.placed;
          fine = k.fine;
        }))
        (λ (k : TooLong hash rows (λ μ. weigh μ rows s v) (spell_bytes p.rest) now.long). inr (record {
          marked = k.marked;
          long = let more = over_more (spell_bytes p.rest) t (omega (arith, bytes_more p.rest (p.front ++ p.rest) (omega (arith, length-append p.front p.rest)), ap length p.is)) in let l = k.long in omega (arith, more, l);
        }))
        (w.exact fine (spell_bytes p.rest) p.there);
  }

pub prefix_layer : (h : List ℕ → List ℕ) (rows : List Row) {T E : Type 0} (r : Result T E) (s : Slot) (v : Value) (digits old new begun spelled bytes : List ℕ) (was now : Nodes) → begun ≡ [] → bytes ≡ spelled
    → Writes h rows (made (whole h) rows s v) (λ μ. weigh μ rows s v) begun spelled was now → OnOk r (JoinsPrefix digits bytes old new)
    → OnOk r (Writes h rows (marked_made (whole h) rows UF.BytesPrefix s v digits) (λ μ. weigh μ rows s v) old new was now)
prefix_layer h rows r s v digits old new begun spelled bytes was now empty same w =
    on_ok r (JoinsPrefix digits bytes old new) (Writes h rows (marked_made (whole h) rows UF.BytesPrefix s v digits) (λ μ. weigh μ rows s v) old new was now)
    (λ j. prefixed h rows s v digits old new spelled j.bytes was now (λ front rest known is. j.read front rest known (same ∙ is)) j.is
    (subst (λ b. Writes h rows (made (whole h) rows s v) (λ μ. weigh μ rows s v) b spelled was now) empty w))
