-- A struct that is written in the key order of a table, as a map, with a discriminant among its fields or none.
use Rattle.std.proofs.Common.{◌≡◌, ℕ, ◌+◌, List, [], ◌∷◌, ◌++◌, length, take, drop, map, Bool, true, false, cond, Option, Some, None, option_map, slice_get, refl, sym, ap, ◌∙◌, arith, append_assoc, append-nil}
use Rattle.std.specs.List.{filter}
use Rattle.std.proofs.lemmas.List.{length-append, length-map, map-append, take-append-drop}
use Rattle.std.proofs.lemmas.List.Elements.{filter-append}
use Rattle.ild_data.specs.Spell.{spell_text}
use Rattle.ild_schema.specs.declared.def.Field.{Field}
use Rattle.ild_schema.specs.declared.row.Row.{Row}
use Rattle.ild_schema.specs.Clear.{AreNamesApart}
use Rattle.ild_schema.specs.Indexed.{InKeyOrder}
use Rattle.ild_schema.specs.Marks.{field_text}
use Rattle.ild_schema.specs.Value.{Value}
use Rattle.ild_typed.specs.Hamt.{whole}
use Rattle.ild_build_pass.specs.inside.Made.{both, counted}
use Rattle.ild_build_leaf.specs.Kept.{count_written}
use Rattle.ild_build_pass.specs.inside.Places.{is_written, map_made, name_at, named, place_made, places_made, texts_of, written_of}
use Rattle.ild_build_pass.specs.Weights.{Weight, places_weight}
use Rattle.ild_build_pass.specs.Writes.{Writes}
use Rattle.ild_build_entries.specs.declared.nodes.Nodes.{Nodes}
use Rattle.ild_build_pass.proofs.Flow.{ends, goes, leaf, starts}
use Rattle.ild_build_pass.proofs.Kept.{stands}
use Rattle.ild_build_pass.proofs.Keyed.{keyed}
use Rattle.ild_build_pass.proofs.Loops.{place_entry, tag_made}
use Rattle.ild_build_pass.proofs.Spread.{order_count}
use Rattle.ild_build_pass.proofs.Weighing.{no_place}
use Rattle.ild_build_pass.proofs.Writing.{wrote_is}

-- ---- one behind another

both_none : (o : Option (List ℕ)) → both o None ≡ None
both_none None = refl
both_none (Some a) = refl

both_nil : (o : Option (List ℕ)) → o ≡ both o (Some [])
both_nil None = refl
both_nil (Some a) = ap Some (sym (append-nil a))

nil_both : (o : Option (List ℕ)) → both (Some []) o ≡ o
nil_both None = refl
nil_both (Some a) = refl

both_assoc : (a b c : Option (List ℕ)) → both (both a b) c ≡ both a (both b c)
both_assoc None b c = refl
both_assoc (Some a) None c = refl
both_assoc (Some a) (Some b) None = refl
both_assoc (Some a) (Some b) (Some c) = ap Some (append_assoc a b c)

-- a head, and bytes between two parts
pub around : (h : List ℕ → List ℕ) (rows : List Row) (a b : Option (List ℕ)) (p t : List ℕ) (M N : Weight → ℕ) (old one two three new : List ℕ) (was mid now : Nodes) → one ≡ old ++ p → Writes h rows a M one two was mid → three ≡ two ++ t → Writes h rows b N three new mid now
    → Writes h rows (option_map (λ s. p ++ s) (both a (both (Some t) b))) (λ μ. M μ + N μ) old new was now
around h rows a b p t M N old one two three new was mid now head_is first tag_is last =
    let all = option_map (λ s. p ++ s) (both a (both (Some t) b)) in
    let tag : Writes h rows (Some t) (λ μ. 0) two three mid mid = leaf h rows (Some t) (λ μ. 0) two three mid (λ μ. refl) (wrote_is (Some t) two three t refl tag_is) in
    let x = goes h rows all (both a (both (Some t) b)) a (both (Some t) b) (λ μ. M μ + N μ) (λ μ. M μ + N μ) M N old one two was was mid refl (λ μ. refl) first (starts h rows (both a (both (Some t) b)) (λ μ. M μ + N μ) old one p was head_is) in
    let y = goes h rows all (both (Some t) b) (Some t) b (λ μ. M μ + N μ) N (λ μ. 0) N old two three was mid mid refl (λ μ. omega arith) tag x in
    let z = goes h rows all b b (Some []) (λ μ. M μ + N μ) N N (λ μ. 0) old three new was mid now (both_nil b) (λ μ. omega arith) last y in
    ends h rows all (Some []) (λ μ. M μ + N μ) (λ μ. 0) old new was now refl (λ μ. refl) z

module _ (hash : List ℕ → List ℕ) (rows : List Row) (fs : List Field) (os : List (Option Value)) where
  -- ---- fields alone

  -- the head counts them
  kept_count : AreNamesApart fs → (key : List ℕ) (ns : List ℕ) → InKeyOrder (texts_of fs) ns → length (named fs key (written_of fs os ns)) ≡ count_written fs os
  kept_count apart key ns order = ap length (keyed fs os key apart ns order) ∙ order_count fs os key apart

  pub map_kept : AreNamesApart fs → (ns : List ℕ) → InKeyOrder (texts_of fs) ns → map_made (whole hash) rows fs os ≡ counted 5 (count_written fs os) (places_made (whole hash) rows fs os [] (named fs [] (written_of fs os ns)))
  map_kept apart ns order =
      ap (λ ps. counted 5 (length ps) (places_made (whole hash) rows fs os [] ps)) (sym (keyed fs os [] apart ns order))
      ∙ ap (λ n. counted 5 n (places_made (whole hash) rows fs os [] (named fs [] (written_of fs os ns)))) (kept_count apart [] ns order)

  -- ---- with a discriminant

  -- places of fields, whatever stands past them
  any_key : (key tag : List ℕ) (ns : List ℕ) → places_made (whole hash) rows fs os tag (named fs key (written_of fs os ns)) ≡ places_made (whole hash) rows fs os [] (named fs [] (written_of fs os ns))
  any_key key tag [] = refl
  any_key key tag (n ∷ ns) = by (is_written fs os n) refl (any_key key tag ns)
    where
      same : is_written fs os n ≡ true → place_made (whole hash) rows fs os tag (name_at fs key n, n) ≡ place_made (whole hash) rows fs os [] (name_at fs [] n, n)
      same is =
          let x = stands fs os n is in
          sym (place_entry hash rows fs os key tag n x.field x.value (field_text x.field) x.at x.there refl) ∙ place_entry hash rows fs os [] [] n x.field x.value (field_text x.field) x.at x.there refl

      by : (b : Bool) → is_written fs os n ≡ b → places_made (whole hash) rows fs os tag (named fs key (written_of fs os ns)) ≡ places_made (whole hash) rows fs os [] (named fs [] (written_of fs os ns))
          → places_made (whole hash) rows fs os tag (named fs key (cond b (n ∷ written_of fs os ns) (written_of fs os ns)))
          ≡ places_made (whole hash) rows fs os [] (named fs [] (cond b (n ∷ written_of fs os ns) (written_of fs os ns)))
      by true is rest = ap (λ o. both o (places_made (whole hash) rows fs os tag (named fs key (written_of fs os ns)))) (same is) ∙ ap (both (place_made (whole hash) rows fs os [] (name_at fs [] n, n))) rest
      by false is rest = rest

  places_append : (tag : List ℕ) (xs ys : List (List ℕ × ℕ)) → places_made (whole hash) rows fs os tag (xs ++ ys) ≡ both (places_made (whole hash) rows fs os tag xs) (places_made (whole hash) rows fs os tag ys)
  places_append tag [] ys = sym (nil_both (places_made (whole hash) rows fs os tag ys))
  places_append tag (x ∷ xs) ys =
      ap (both (place_made (whole hash) rows fs os tag x)) (places_append tag xs ys)
      ∙ sym (both_assoc (place_made (whole hash) rows fs os tag x) (places_made (whole hash) rows fs os tag xs) (places_made (whole hash) rows fs os tag ys))

  -- the fields on both sides of it
  pub sides_made : (key tag : List ℕ) (n : ℕ) → slice_get fs n ≡ None → (front back : List ℕ)
      → both (places_made (whole hash) rows fs os [] (named fs [] (written_of fs os front))) (both (Some (spell_text key ++ spell_text tag)) (places_made (whole hash) rows fs os [] (named fs [] (written_of fs os back))))
      ≡ places_made (whole hash) rows fs os tag (named fs key (written_of fs os front ++ (n ∷ written_of fs os back)))
  sides_made key tag n none front back =
      let pair : ℕ → List ℕ × ℕ = λ i. (name_at fs key i, i) in
      let a = written_of fs os front in
      let b = written_of fs os back in
      ap (λ o. both o (both (Some (spell_text key ++ spell_text tag)) (places_made (whole hash) rows fs os [] (named fs [] b)))) (sym (any_key key tag front))
      ∙ ap (λ o. both (places_made (whole hash) rows fs os tag (map pair a)) (both (Some (spell_text key ++ spell_text tag)) o)) (sym (any_key key tag back))
      ∙ ap (λ o. both (places_made (whole hash) rows fs os tag (map pair a)) (both o (places_made (whole hash) rows fs os tag (map pair b)))) (sym (tag_made hash rows fs os key tag n none))
      ∙ sym (ap (places_made (whole hash) rows fs os tag) (map-append pair a (n ∷ b)) ∙ places_append tag (map pair a) (pair n ∷ map pair b))

  weight_append : (μ : Weight) (xs ys : List ℕ) → places_weight μ rows fs os (xs ++ ys) ≡ places_weight μ rows fs os xs + places_weight μ rows fs os ys
  weight_append μ [] ys = omega arith
  weight_append μ (x ∷ xs) ys = let rest = weight_append μ xs ys in omega (arith, rest)

  pub sides_weigh : (μ : Weight) (n : ℕ) → slice_get fs n ≡ None → (xs ys : List ℕ) → places_weight μ rows fs os (xs ++ (n ∷ ys)) ≡ places_weight μ rows fs os xs + places_weight μ rows fs os ys
  sides_weigh μ n none xs ys = let all = weight_append μ xs (n ∷ ys) in let nothing = no_place rows μ fs os n none in omega (arith, all, nothing)

  pub sides_count : AreNamesApart fs → (key : List ℕ) (n c : ℕ) (ns : List ℕ) → InKeyOrder (texts_of fs) ns → length (named fs key (written_of fs os (take c ns) ++ (n ∷ written_of fs os (drop c ns)))) ≡ count_written fs os + 1
  sides_count apart key n c ns order =
      let pair : ℕ → List ℕ × ℕ = λ i. (name_at fs key i, i) in
      let a = written_of fs os (take c ns) in
      let b = written_of fs os (drop c ns) in
      let all : a ++ b ≡ written_of fs os ns = sym (filter-append (is_written fs os) (take c ns) (drop c ns)) ∙ ap (filter (is_written fs os)) (take-append-drop c ns) in
      omega (
        arith,
        length-map (a ++ (n ∷ b)) pair,
        length-append a (n ∷ b),
        length-append a b,
        ap length all,
        length-map (written_of fs os ns) pair,
        kept_count apart key ns order,
      )
