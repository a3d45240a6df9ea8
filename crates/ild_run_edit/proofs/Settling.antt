-- A changed value that has none of the first causes: it is made, or one of its blocks is too long. What came of its blocks is due.
use Rattle.std.proofs.Common.{cond, ◌≡◌, ◌⊎◌, inl, inr, ℕ, ◌+◌, ◌≤◌, ◌<◌, List, [], ◌∷◌, length, Bool, true, false, Option, Some, None, refl, ap, sym, subst, ◌∙◌, arith}
use Rattle.std.specs.Prelude.{Contains, IfOk, nat_le, Result, Ok, Err}
use Rattle.std.specs.List.{AllByRecursion}
use Rattle.std.specs.Option.{option_map_or}
use Rattle.std.proofs.lemmas.Option.{same_Some}
use Rattle.std.specs.Result.{result_ok}
use Rattle.ild_data.proofs.AllOf.{all_contained}
use Rattle.ild_data.specs.Data.{Data}
use Rattle.ild_data.specs.Limits.{longest_block}
use Rattle.ild_data.specs.Spell.{id_of}
use Rattle.ild_edges.specs.Store.{Moment, block_at}
use Rattle.ild_edges.specs.Told.{IfTold}
use Rattle.ild_schema.specs.declared.number.TypeNo.{TypeNo}
use Rattle.ild_schema.specs.declared.row.Row.{Row}
use Rattle.ild_schema.specs.Slots.{plainly}
use Rattle.ild_schema.specs.Value.{Value}
use Rattle.ild_script.specs.declared.reply.No.{No}
use Rattle.ild_script.specs.declared.reply.No.TheVariants as N
use Rattle.ild_script_meaning.specs.Costs.{blocks_met, changed_met}
use Rattle.ild_script_meaning.specs.Lines.{Setting, short, read_json, new_nodes, edit_blocks, edit_children, edit_owes, value_blocks, value_children, no_places}
use Rattle.ild_script_session.specs.Session.{Due}
use Rattle.ild_script_session.specs.Step.{AddsOnly, AddsWhole, Collides, Holds}
use Rattle.ild_typed.specs.Fits.{Fits}
use Rattle.ild_typed.specs.Hamt.{whole}
use Rattle.ild_typed.specs.Judged.{has_hole, breaks_delimiter, exhausts}
use Rattle.ild_typed.specs.Represented.{represented}
use Rattle.ild_typed.specs.Schema.{IsSchema}
use Rattle.ild_typed.specs.Stands.{Stands, Storable, bare, blocks_of}
use Rattle.ild_typed.specs.Typed.{Typed}
use Rattle.ild_typed_places.specs.Places.{children_in}
use Rattle.ild_path_edits.specs.Edit.{Edit, line_change, path_of}
use Rattle.ild_path_edits.specs.Judged.{Tests, AreTests, are_sized, judged, unless_judged, judged_result}
use Rattle.ild_path_edits.proofs.Judges.{unrefused_are_storable}
use Rattle.ild_path_judged.specs.Laws.{IsRefusedInOrder}
use Rattle.ild_path_judged.proofs.Order.{refused_in_order}
use Rattle.ild_path.specs.Replaces.{ReplaceAnswer, Replaces, Spares}
use Rattle.ild_path.specs.declared.fault.EditFault.{EditFault}
use Rattle.ild_path.specs.declared.fault.EditFault.TheVariants as F
use Rattle.ild_run_standing.specs.Answers.{PassesOn}
use Rattle.ild_run_edit.specs.inside.Moves.{Moves, MoveAnswer, due_of, edited_by, done_as}

not_long : (bs : List (List ℕ)) (b : List ℕ) → AllByRecursion (λ b. length b ≤ longest_block) bs → Contains bs b → longest_block < length b → ⊥
not_long bs b all among long = let le = all_contained (λ b. length b ≤ longest_block) bs b all among in omega arith

pub small : (n m : ℕ) → n ≤ m → nat_le n m ≡ true
small n m h = grind (arith, h)

short_all : (bs : List (List ℕ)) → AllByRecursion (λ b. length b ≤ longest_block) bs → short bs ≡ bs
short_all [] all = refl
short_all (b ∷ bs) all = (λ i. cond (small (length b) longest_block all.0 i) (b ∷ short bs) (short bs)) ∙ ap (λ xs. b ∷ xs) (short_all bs all.1)

module _ (h : List ℕ → List ℕ) (rows : List Row) (t : Tests) (n : TypeNo) (v : Value) (e : Edit (List ℕ)) (c : Value) (u : Data) (schema : IsSchema rows) (tests : AreTests rows t) (typed : Typed rows (plainly n) c)
    (hole : has_hole rows (plainly n) c ≡ false) (delimiter : breaks_delimiter rows (plainly n) c ≡ false) (fits : Fits rows 96 (plainly n) c) (full : exhausts h rows (plainly n) c ≡ false)
    (tree : represented (whole h) rows (plainly n) c ≡ Some u) (made : line_change rows t.is_key read_json (plainly n, v) e ≡ Ok c) where
  abbrev w : Setting
  w = record { frame = bare; hash = h; rows = rows; tests = t; ty = n }

  abbrev D : Due Value
  D = due_of h rows t n v e

  abbrev blocks : List (List ℕ)
  blocks = blocks_of bare h rows n c u

  refused : IsRefusedInOrder bare h rows t n c
  refused = refused_in_order bare h rows t tests n c typed

  edited_as : (o : Option No) → judged bare h rows t n c ≡ o → edited_by h rows t n v e ≡ unless_judged c o
  edited_as o g = ap (judged_result bare h rows t n) made ∙ ap (unless_judged c) g

  pub record Settled (r : Result Value No) (sized : Bool) : Type 0 where
    pub edited : edited_by h rows t n v e ≡ r
    pub sized_is : are_sized bare h rows n c ≡ sized

  settled : (Settled (Ok c) true) ⊎ (Settled (Err N.Size) false)
  settled = by (are_sized bare h rows n c) refl where
    by : (s : Bool) → are_sized bare h rows n c ≡ s → (Settled (Ok c) true) ⊎ (Settled (Err N.Size) false)
    by true g = inl (record { edited = edited_as None (refused.none hole delimiter fits full g); sized_is = g })
    by false g = inr (record { edited = edited_as (Some N.Size) (refused.size hole delimiter fits full g); sized_is = g })

  value_blocks_are : value_blocks w c ≡ blocks
  value_blocks_are = ap (λ o. option_map_or (λ d. blocks_of bare h rows n c d) o []) tree

  storable_of : are_sized bare h rows n c ≡ true → Storable bare h rows n c u
  storable_of g =
      let x = (unrefused_are_storable bare h rows t schema tests n c typed).0 (refused.none hole delimiter fits full g) in
      subst (Storable bare h rows n c) (same_Some x.0 u (sym x.1.tree ∙ tree)) x.1

  pub adds_are : D.adds ≡ short blocks
  adds_are = by settled where
    by : (Settled (Ok c) true) ⊎ (Settled (Err N.Size) false) → D.adds ≡ short blocks
    by (inl x) = ap (edit_blocks w v e) x.edited ∙ value_blocks_are ∙ sym (short_all blocks (storable_of x.sized_is).sized)
    by (inr x) = ap (edit_blocks w v e) x.edited ∙ ap (λ r. short (option_map_or (value_blocks w) (result_ok r) [])) made ∙ ap short value_blocks_are

  children_are : D.children ≡ children_in bare h rows n c
  children_are = by settled where
    by : (Settled (Ok c) true) ⊎ (Settled (Err N.Size) false) → D.children ≡ children_in bare h rows n c
    by (inl x) = ap (edit_children w v e) x.edited
    by (inr x) = ap (edit_children w v e) x.edited ∙ ap (λ r. option_map_or (value_children w) (result_ok r) no_places) made

  pub puts_due : D.puts ≡ blocks_met h rows (plainly n, c) (path_of e) + new_nodes w v e
  puts_due = by settled where
    by : (Settled (Ok c) true) ⊎ (Settled (Err N.Size) false) → D.puts ≡ blocks_met h rows (plainly n, c) (path_of e) + new_nodes w v e
    by (inl x) = ap (edit_owes w v e) x.edited ∙ ap (changed_met h rows (plainly n) (path_of e) (new_nodes w v e)) made
    by (inr x) = ap (edit_owes w v e) x.edited ∙ ap (changed_met h rows (plainly n) (path_of e) (new_nodes w v e)) made

  pub only_due : (m k : Moment) → AddsOnly m k (short blocks) → AddsOnly m k D.adds
  only_due m k a = subst (AddsOnly m k) (sym adds_are) a

  pub whole_due : (m k : Moment) → AddsWhole m k (children_in bare h rows n c) → AddsWhole m k D.children
  whole_due m k a = subst (AddsWhole m k) (sym children_are) a

  pub too_long : (b : List ℕ) → Contains blocks b → longest_block < length b → edited_by h rows t n v e ≡ Err N.Size
  too_long b among long = by settled where
    by : (Settled (Ok c) true) ⊎ (Settled (Err N.Size) false) → edited_by h rows t n v e ≡ Err N.Size
    by (inl x) = absurd (not_long blocks b (storable_of x.sized_is).sized among long)
    by (inr x) = x.edited

  pub made_ok : AllByRecursion (λ b. length b ≤ longest_block) blocks → edited_by h rows t n v e ≡ Ok c
  made_ok sized = ap (judged_result bare h rows t n) made ∙ ap (unless_judged c) ((unrefused_are_storable bare h rows t schema tests n c typed).1 (u, record { fits = fits; tree = tree; sized = sized }))

  held_all : (k : Moment) (b : List ℕ) → IfTold k.blocks (λ now. Stands bare (block_at now) h rows n (id_of b) c) → Holds k blocks
  held_all k b x = by k.blocks x where
    by : (o : Option (List (List ℕ))) → IfTold o (λ now. Stands bare (block_at now) h rows n (id_of b) c) → IfTold o (λ now. AllByRecursion (λ y. block_at now (id_of y) ≡ Some y) blocks)
    by None s = tt
    by (Some now) s = subst (λ d. AllByRecursion (λ y. block_at now (id_of y) ≡ Some y) (blocks_of bare h rows n c d)) (same_Some s.tree u (sym s.storable.tree ∙ tree)) s.all

  -- an Ok passes on what was carried
  abbrev pub Passing : Result (List ℕ) EditFault → Moment → Type 0
  Passing r k = IfOk r (λ b. IfTold k.given (λ now. PassesOn w now v c))

  pub answer : (m k : Moment) (r : Result (List ℕ) EditFault) → ReplaceAnswer h rows n c u m r k → Passing r k → MoveAnswer h rows t n v e m (done_as r) k
  answer m k (Ok b) a p = record { value = c; tree = u; edited = made_ok a.1; storable = record { fits = fits; tree = tree; sized = a.1 }; spelled = a.0; holds = held_all k b a.2; passed = p }
  answer m k (Err F.Exhausted) a p = absurd a
  answer m k (Err F.NoKey) a p = absurd a
  answer m k (Err F.Size) a p = inl (too_long a.0 a.1 a.2)
  answer m k (Err F.Store) a p = inr a
  answer m k (Err (F.Clash id kept new)) a p = inr (subst (Collides k) (sym adds_are) a.0)
  answer m k (Err F.Memory) a p = inr tt

  pub some_met : (p : ℕ) → p ≡ blocks_met h rows (plainly n, c) (path_of e) + new_nodes w v e → p ≡ 0 → ⊥
  some_met p is none = let q = sym is ∙ none in omega arith

  pub moved : (path : List (List ℕ)) → path_of e ≡ path → (m k : Moment) (r : Result (List ℕ) EditFault) → Spares m r k → Replaces h rows n path c u m r k → Passing r k → Moves h rows t n v e m (done_as r) k
  moved path same m k r spares x passing = record {
    answer = answer m k r x.answer passing;
    gains = record { adds = only_due m k x.adds; whole = whole_due m k x.whole };
    still = λ none. absurd (some_met D.puts puts_due none);
    gets = let g = spares.gets in omega arith;
    puts = in_all k.puts m.puts D.puts (blocks_met h rows (plainly n, c) (path_of e)) (new_nodes w v e) puts_due (subst (λ p. k.puts ≤ m.puts + blocks_met h rows (plainly n, c) p) (sym same) x.puts);
  }
    where
      in_all : (k m d a b : ℕ) → d ≡ a + b → k ≤ m + a → k ≤ m + d
      in_all k m d a b e le = omega arith
