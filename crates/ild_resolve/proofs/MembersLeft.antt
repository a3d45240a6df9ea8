-- Members, one after the other: what was made of those before, and what is left.
use Rattle.std.proofs.Common.{◌≡◌, ◌⊎◌, ℕ, suc, ◌+◌, ◌≤◌, List, [], ◌∷◌, ◌++◌, Option, Some, None, length, length-append, refl, ap, sym, ◌∙◌, arith}
use Rattle.ild_parse_grammar.specs.declared.ast.Member.{Member as AstMember}
use Rattle.ild_parse_grammar.specs.declared.ast.Mark.{Mark as AstMark}
use Rattle.ild_parse_grammar.specs.declared.ast.Mark.TheVariants as M
use Rattle.ild_parse_grammar.specs.declared.ast.KindWord.TheVariants as K
use Rattle.ild_schema.specs.declared.def.Member.{Member}
use Rattle.ild_schema.specs.declared.row.Row.{Row}
use Rattle.ild_resolve.specs.Events.{Event, target_events, mark_events, each_events, member_events, types_in}
use Rattle.ild_resolve.specs.Faults.{first_wrong}
use Rattle.ild_resolve.specs.Rows.{target_rows, member, members, member_rows}
use Rattle.ild_resolve.specs.declared.error.ResolveErr.{ResolveErr}
use Rattle.ild_resolve.specs.declared.error.ResolveErr.TheVariants as E
use Rattle.ild_resolve.proofs.Counts.{types_in-append, target_count}
use Rattle.ild_resolve.proofs.PartsLeft.{PartsLeft, PartFirst, part-room, part-wrong, part-next, made-next}

-- what is looked up of a member
abbrev pub looked_up : AstMember → List Event
looked_up m = target_events m.at m.target ++ mark_events m.mark

pub record MembersLeft (numbers : List ℕ → Option ℕ) (before : List Row) (all : List AstMember) (rows : List Row) (made : List Member) (left : List AstMember) : Type 0 where
  pub parts : PartsLeft numbers (each_events member_events 0 all) (before ++ member_rows numbers all) rows (each_events member_events (length made) left) (member_rows numbers left)
  pub same : members numbers (length before) all ≡ made ++ members numbers (length rows) left

-- no type begins in a mark
types_looked_up : (m : AstMember) → types_in (looked_up m) ≡ types_in (target_events m.at m.target)
types_looked_up m = omega (arith, types_in-append (target_events m.at m.target) (mark_events m.mark), no_types m.mark)
  where
    no_types : (mark : Option AstMark) → types_in (mark_events mark) ≡ 0
    no_types (Some (M.Kind (K.Float at))) = refl
    no_types mark = refl

module _ (numbers : List ℕ → Option ℕ) (before : List Row) (all : List AstMember) (rows : List Row) (made : List Member) (m : AstMember) (left : List AstMember) (h : MembersLeft numbers before all rows made (m ∷ left)) where
  abbrev pub its : List Row
  its = target_rows numbers m.at m.target

  member_first : (count : ℕ) → count ≡ suc (length made)
      → PartFirst numbers (looked_up m) its (each_events member_events (length made) (m ∷ left)) (each_events member_events count left) (member_rows numbers (m ∷ left)) (member_rows numbers left)
  member_first count counted = record {
    words = ap (λ k. first_wrong numbers (looked_up m ++ each_events member_events k left)) (sym counted);
    types = ap (λ k. types_in (looked_up m ++ each_events member_events k left)) (sym counted);
    rows = refl;
    count = target_count numbers m.at m.target ∙ sym (types_looked_up m);
  }

  -- the next member has room for its inline types
  pub members_left-room : length rows + types_in (target_events m.at m.target) ≤ 65543
  members_left-room = omega (arith, part-room _ _ _ _ _ _ _ _ _ _ h.parts (member_first _ refl), types_looked_up m)

  pub members_left-wrong : (e : ResolveErr) → (e ≡ E.Memory) ⊎ (first_wrong numbers (looked_up m) ≡ Some e) → (e ≡ E.Memory) ⊎ (first_wrong numbers (each_events member_events 0 all) ≡ Some e)
  members_left-wrong e wrong = part-wrong _ _ _ _ _ _ _ _ _ _ h.parts (member_first _ refl) e wrong

  pub members_left-next : (more : List Row) (added : List Member) → first_wrong numbers (looked_up m) ≡ None → more ≡ rows ++ its → added ≡ made ++ member numbers (length rows) m ∷ []
      → MembersLeft numbers before all more added left
  members_left-next more added right rows_is made_is =
      let count : length added ≡ suc (length made) = ap length made_is ∙ length-append made (member numbers (length rows) m ∷ []) ∙ omega arith in
      let size : length more ≡ length rows + length its = ap length rows_is ∙ length-append rows _ in
      record {
        parts = part-next _ _ _ _ _ _ _ _ _ _ h.parts (member_first (length added) count) more right rows_is;
        same = made-next _ _ _ _ _ (h.same ∙ ap (λ n. made ++ member numbers (length rows) m ∷ members numbers n left) (sym size)) made_is;
      }
