-- What is told around a place, clause by clause.
use Rattle.std.proofs.Common.{◌≡◌, ℕ, List, Bool, false, Option, Some, None, sym, ◌∙◌, ap, subst}
use Rattle.std.specs.Borrow.{Bor}
use Rattle.std.specs.Prelude.{Result, Ok, option_map}
use Rattle.std.specs.declared.alloc.AllocError.{AllocError}
use Rattle.std.proofs.lemmas.Option.{none-some, same_Some}
use Rattle.ild_path_around.proofs.AtPlace.{came_inside_told, came_key_told, came_textless_told, came_whole_told, gone_inside_told, gone_key_told, gone_whole_told, has_none, has_text}
use Rattle.ild_path_around.specs.Around.{TellsComing, TellsGoing, TellsInBlock, text_edit_of}
use Rattle.ild_path_delimiter.specs.Laws.{OnlyTextsBreak}
use Rattle.ild_path_delimiter.specs.declared.delimiter.TextEdit.{TextEdit}
use Rattle.ild_path_delimiter.specs.declared.delimiter.TextEdit.TheVariants as E
use Rattle.ild_path_place.specs.Parts.{end_in, verb_in}
use Rattle.ild_path_place.specs.declared.place.End.{End}
use Rattle.ild_path_place.specs.declared.place.End.TheVariants as D
use Rattle.ild_path_place.specs.declared.place.Place.{Place}
use Rattle.ild_path_place.specs.declared.verb.Verb.{Verb}
use Rattle.ild_path_place.specs.declared.verb.Verb.TheVariants as V
use Rattle.ild_path_tells.specs.Facts.{verb_of}
use Rattle.ild_path_textless.specs.Textless.{TextlessBreakNothing}

-- not in the innermost block
abbrev pub IsOutside : End → Type 0
IsOutside D.Whole = Unit {0}
IsOutside (D.InBlock xs) = ⊥
IsOutside (D.AtKey xs trail entry) = Unit {0}

module _ (place : Place) (text : Option (Bor (List ℕ))) where
  asked : (verb : Verb) (o : Option TextEdit) → place.verb ≡ verb → text_edit_of (verb_in place) text ≡ o → text_edit_of verb text ≡ o
  asked verb o e is = ap (λ v. text_edit_of v text) (sym e) ∙ is

  -- with no text nothing around it is a text
  pub coming_none : TextlessBreakNothing → OnlyTextsBreak → text_edit_of (verb_in place) text ≡ None → TellsComing place text (Ok false)
  coming_none law only none h rows was p how path w c is_key is rooted keys utf8 safe fits free shown made =
      let gone : text ≡ None = has_none how text (asked (verb_of how) None is.verb_is none) in
      sym (came_textless_told h rows was p path place only is_key rooted keys how is w c safe utf8 fits free made law (sym shown ∙ ap (option_map (λ t. t.now)) gone))

  pub going_none : text_edit_of (verb_in place) text ≡ None → TellsGoing place (Ok false)
  going_none none h rows was p path c is_key is rooted keys utf8 made = absurd (none-some E.Delete (sym (asked V.Del None is.verb_is none)))

  pub coming_outside : OnlyTextsBreak → (end : End) → end_in place ≡ end → IsOutside end → TellsComing place text (Ok false)
  coming_outside only D.Whole e out h rows was p how path w c is_key is rooted keys utf8 safe fits free shown made =
      sym (came_whole_told h rows was p path place only is_key rooted keys how is w c safe utf8 fits free made e)
  coming_outside only (D.InBlock xs) e out h rows was p how path w c is_key is rooted keys utf8 safe fits free shown made = absurd out
  coming_outside only (D.AtKey xs trail entry) e out h rows was p how path w c is_key is rooted keys utf8 safe fits free shown made =
      sym (came_key_told h rows was p path place only is_key rooted keys how is w c safe utf8 fits free made xs trail entry e)

  pub going_outside : OnlyTextsBreak → (end : End) → end_in place ≡ end → IsOutside end → TellsGoing place (Ok false)
  going_outside only D.Whole e out h rows was p path c is_key is rooted keys utf8 made = sym (gone_whole_told h rows was p path place only is_key rooted keys is c utf8 made e)
  going_outside only (D.InBlock xs) e out h rows was p path c is_key is rooted keys utf8 made = absurd out
  going_outside only (D.AtKey xs trail entry) e out h rows was p path c is_key is rooted keys utf8 made =
      sym (gone_key_told h rows was p path place only is_key rooted keys is c utf8 made xs trail entry e)

  module _ (only : OnlyTextsBreak) (xs : List (List ℕ)) (edit : TextEdit) (result : Result Bool AllocError) (asks : text_edit_of (verb_in place) text ≡ Some edit) (e : end_in place ≡ D.InBlock xs) (told : TellsInBlock place xs edit result) where
    pub coming_inside : TellsComing place text result
    coming_inside h rows was p how path w c is_key is rooted keys utf8 safe fits free shown made =
        let x = has_text how text edit (asked (verb_of how) (Some edit) is.verb_is asks) in
        came_inside_told h rows was p path place only is_key rooted keys how is w c safe utf8 fits free made x.text (ap (option_map (λ t. t.now)) (sym x.there) ∙ shown) xs e result (subst (λ (u : TextEdit). TellsInBlock place xs u result) x.is told)

    pub going_inside : TellsGoing place result
    going_inside h rows was p path c is_key is rooted keys utf8 made =
        let same : E.Delete ≡ edit = same_Some E.Delete edit (asked V.Del (Some edit) is.verb_is asks) in
        gone_inside_told h rows was p path place only is_key rooted keys is c utf8 made xs e result (subst (λ (u : TextEdit). TellsInBlock place xs u result) (sym same) told)
