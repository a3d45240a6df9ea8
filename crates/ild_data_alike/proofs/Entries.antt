-- Entries with blank values: their parts, their order, and what is found among them.
use Rattle.std.proofs.Common.{◌≡◌, ℕ, ◌==◌, Bool, true, false, cond, not, List, [], ◌∷◌, length, Some, is_some, refl, sym, ap, ◌∙◌}
use Rattle.std.specs.Prelude.{◌&&◌}
use Rattle.std.specs.FinMap.{find, put}
use Rattle.std.specs.Ordering.{is_eq, match_ordering}
use Rattle.std.specs.declared.cmp.Ordering.{Ordering}
use Rattle.std.specs.declared.cmp.Ordering.TheVariants.{Less, Equal, Greater}
use Rattle.std.proofs.lemmas.List.{length-map}
use Rattle.ild_data.specs.ByteOrder.{bytewise, in_byte_order, no_key_twice}
use Rattle.ild_data.specs.Data.{Data}
use Rattle.ild_data.specs.Trie.{part}
use Rattle.ild_data_alike.specs.Blank.{blank, blank_entry, blank_entries}

pub many_entries : (es fs : List (List ℕ × Data)) → blank_entries es ≡ blank_entries fs → length es ≡ length fs
many_entries es fs same = sym (length-map es blank_entry) ∙ ap length same ∙ length-map fs blank_entry

-- ---- parts

blank_part : (at : List ℕ → ℕ) (es : List (List ℕ × Data)) (i : ℕ) → blank_entries (part at es i) ≡ part at (blank_entries es) i
blank_part at [] i = refl
blank_part at (e ∷ es) i = by (at e.0 == i) (blank_part at es i) where
  by : (b : Bool) → blank_entries (part at es i) ≡ part at (blank_entries es) i
      → blank_entries (cond b (e ∷ part at es i) (part at es i)) ≡ cond b (blank_entry e ∷ part at (blank_entries es) i) (part at (blank_entries es) i)
  by true rest = ap (λ xs. blank_entry e ∷ xs) rest
  by false rest = rest

pub part_alike : (at : List ℕ → ℕ) (es fs : List (List ℕ × Data)) (i : ℕ) → blank_entries es ≡ blank_entries fs → blank_entries (part at es i) ≡ blank_entries (part at fs i)
part_alike at es fs i same = blank_part at es i ∙ ap (λ xs. part at xs i) same ∙ sym (blank_part at fs i)

-- ---- order

blank_put : (k : List ℕ) (d : Data) (es : List (List ℕ × Data)) → blank_entries (put bytewise k d es) ≡ put bytewise k (blank d) (blank_entries es)
blank_put k d [] = refl
blank_put k d (e ∷ es) = by (bytewise k e.0) (blank_put k d es) where
  by : (o : Ordering) → blank_entries (put bytewise k d es) ≡ put bytewise k (blank d) (blank_entries es)
      → blank_entries (match_ordering o ((k, d) ∷ e ∷ es) ((e.0, d) ∷ es) (e ∷ put bytewise k d es))
      ≡ match_ordering o ((k, blank d) ∷ blank_entry e ∷ blank_entries es) ((e.0, blank d) ∷ blank_entries es) (blank_entry e ∷ put bytewise k (blank d) (blank_entries es))
  by Less rest = refl
  by Equal rest = refl
  by Greater rest = ap (λ xs. blank_entry e ∷ xs) rest

blank_order : (es : List (List ℕ × Data)) → blank_entries (in_byte_order es) ≡ in_byte_order (blank_entries es)
blank_order [] = refl
blank_order (e ∷ es) = blank_put e.0 e.1 (in_byte_order es) ∙ ap (put bytewise e.0 (blank e.1)) (blank_order es)

pub order_alike : (es fs : List (List ℕ × Data)) → blank_entries es ≡ blank_entries fs → blank_entries (in_byte_order es) ≡ blank_entries (in_byte_order fs)
order_alike es fs same = blank_order es ∙ ap in_byte_order same ∙ sym (blank_order fs)

-- ---- keys

blank_found : (k : List ℕ) (es : List (List ℕ × Data)) → is_some (find bytewise k (blank_entries es)) ≡ is_some (find bytewise k es)
blank_found k [] = refl
blank_found k (e ∷ es) = by (is_eq (bytewise k e.0)) (blank_found k es) where
  by : (b : Bool) → is_some (find bytewise k (blank_entries es)) ≡ is_some (find bytewise k es)
      → is_some (cond b (Some (blank e.1)) (find bytewise k (blank_entries es))) ≡ is_some (cond b (Some e.1) (find bytewise k es))
  by true rest = refl
  by false rest = rest

blank_twice : (es : List (List ℕ × Data)) → no_key_twice (blank_entries es) ≡ no_key_twice es
blank_twice [] = refl
blank_twice (e ∷ es) = ap (λ b. not b && no_key_twice (blank_entries es)) (blank_found e.0 es) ∙ ap (λ b. not (is_some (find bytewise e.0 es)) && b) (blank_twice es)

pub twice_alike : (es fs : List (List ℕ × Data)) → blank_entries es ≡ blank_entries fs → no_key_twice es ≡ no_key_twice fs
twice_alike es fs same = sym (blank_twice es) ∙ ap no_key_twice same ∙ blank_twice fs
