use Rattle.std.proofs.Common.{refl, ℕ, List, [], ⊎_elim, inl, inr, ◌≡◌, ◌≤◌, All, length, map, string_bytes, ◌∙◌, ap, sym, subst, Err, Global, Ok, Vec}
use Rattle.std.proofs.lemmas.List.Elements.{All-map}
use Rattle.hwdb_spec.specs.Selected.{IsListed, AreNamed, AreTexts}
use Rattle.hwdb_text.specs.Views.{choice_of}
use Rattle.hwdb_spec.specs.Folders.{choice, max_files, names}
use Rattle.hwdb_spec.specs.System.{usr_files, AreNamesIn}
use Rattle.hwdb_spec.specs.Texts.{max_file}
use Rattle.hwdb_spec_commands.specs.Reading.{AreUnread, IsFirstUnread}
use Rattle.hwdb_spec_commands.specs.Refusals.{HasReason}
use Rattle.hwdb_system.proofs.ReasonLemmas.{chosen_reason, first_in_part, texts_in_part}
use Rattle.hwdb_system.proofs.SelectionLemmas.{choice_refused, texts_refused}
use Rattle.hwdb_plan.specs.Folders.{paths_of, read_texts, texts_of_names, with_texts}
use Rattle.hwdb_plan.specs.Lemmas.Folders.{chosen_read, chosen_unread, names_refused}
use Rattle.hwdb_plan.specs.Plans.{Ends, ReachesValue}
use Rattle.hwdb_system.specs.Selections.{texts_in}
use Rattle.hwdb_system.proofs.SelectionPlanLemmas.{select_refused}
use Rattle.hwdb_system.proofs.folders.selected_of.Goals as goal
use Rattle.hwdb_spec.specs.Lemmas.Calls.{given_error}

pub returns-in_err-chosen-clause-refused : goal.returns-in_err-chosen-clause-refused
returns-in_err-chosen-clause-refused g c = λ files named tells.
    given_error _ (AreUnread c.args.root.now files) c.from_residual.result c.from_residual.ensures.1
    (choice_refused (IsFirstUnread c.args.root.now files) c.args.root.now files _ _ c.in_err-chosen.field-0.0 named.in_etc
    (subst (λ l. AreNamesIn (usr_files c.args.root.now) files (map string_bytes l)) (sym c.deref.ensures.value) named.in_usr)
    (λ is. c.in_err-chosen.ensures.too_many (ap Err is)))

pub returns-in_err-texts-clause-refused : goal.returns-in_err-texts-clause-refused
returns-in_err-texts-clause-refused g c = λ files named tells.
    let root = c.args.root.now in
    let seen = g.D.Store.seen c.args.system.now in
    let etc = map string_bytes c.args.etc.now in
    let usr = map string_bytes c.deref.result.now in
    let chosen = map choice_of c.deref-2.result.now in
    let all_named = subst (λ l. AreNamed root seen files etc (map string_bytes l)) (sym c.deref.ensures.value) named in
    let listed = subst (λ l. All (IsListed etc usr) (map choice_of l)) (sym c.deref-2.ensures.value) c.in_ok-chosen.ensures.listed in
    given_error _ (AreUnread root files) c.from_residual-in_err-texts.result c.from_residual-in_err-texts.ensures.1
    (texts_refused (IsFirstUnread root files) root files _ _ chosen c.in_err-texts.field-0.0 named.in_etc all_named.in_usr
    (ap (map choice_of) c.deref-2.ensures.value ∙ c.in_ok-chosen.ensures.chosen) c.in_ok-chosen.ensures.few
    (⊎_elim inl (λ first. inr (first_in_part root seen files etc usr chosen c.in_err-texts.field-0.0 all_named listed first)) (c.in_err-texts.ensures.first tells)))

pub returns-in_err-texts-clause-reason : goal.returns-in_err-texts-clause-reason
returns-in_err-texts-clause-reason g c = λ files named.
    let seen = g.D.Store.seen c.args.system.now in
    let fails = g.D.System.may_fail c.args.system.now in
    let etc = map string_bytes c.args.etc.now in
    given_error _ (HasReason fails ⊥ seen) c.from_residual-in_err-texts.result c.from_residual-in_err-texts.ensures.1
    (chosen_reason fails c.args.root.now seen files etc (map string_bytes c.deref.result.now) (map choice_of c.deref-2.result.now) c.in_err-texts.field-0.0
    (subst (λ l. AreNamed c.args.root.now seen files etc (map string_bytes l)) (sym c.deref.ensures.value) named)
    (subst (λ l. All (IsListed etc (map string_bytes c.deref.result.now)) (map choice_of l)) (sym c.deref-2.ensures.value) c.in_ok-chosen.ensures.listed)
    c.in_err-texts.ensures.refused c.in_err-texts.ensures.reason)

pub returns-clause-selected : goal.returns-clause-selected
returns-clause-selected g c = λ files named tells.
    let seen = g.D.Store.seen c.args.system.now in
    let root = c.args.root.now in
    let etc = map string_bytes c.args.etc.now in
    let listed = subst (λ l. All (IsListed etc (map string_bytes l)) (map choice_of c.in_ok-chosen.chosen.items)) c.deref.ensures.value c.in_ok-chosen.ensures.listed in
    record {
      etc = etc;
      in_etc = named.in_etc;
      in_usr = named.in_usr;
      is = subst (λ l. map choice_of c.in_ok-chosen.chosen.items ≡ choice etc (map string_bytes l)) c.deref.ensures.value c.in_ok-chosen.ensures.chosen;
      few = subst (λ l. length (names etc (map string_bytes l)) ≤ max_files) c.deref.ensures.value c.in_ok-chosen.ensures.few;
      listed = listed;
      read = subst (λ l. AreTexts root seen (map choice_of l) (map (λ t. t.items) c.in_ok-texts.texts.items)) c.deref-2.ensures.value (c.in_ok-texts.ensures.read tells)
          ∙ texts_in_part root seen files etc _ (map choice_of c.in_ok-chosen.chosen.items) named listed;
      within = All-map (λ (t : List ℕ). length t ≤ max_file) (λ t. t.items) c.in_ok-texts.texts.items c.in_ok-texts.ensures.within;
    }

pub returns-in_err-chosen-clause-told : goal.returns-in_err-chosen-clause-told
returns-in_err-chosen-clause-told g c = λ tells.
    let etc = map string_bytes c.args.etc.now in
    let w = g.D.System.reads c.args.system.now in
    subst (λ l. ReachesValue texts_in w (texts_of_names c.args.root.now etc (map string_bytes l)) c.from_residual.result) c.deref.ensures.value
    (names_refused w c.args.root.now etc (map string_bytes c.deref.result.now) texts_in _ c.from_residual.result
    (select_refused etc (map string_bytes c.deref.result.now) c.in_err-chosen.field-0.0 (λ is. c.in_err-chosen.ensures.too_many (ap Err is))) c.from_residual.ensures.1)

pub returns-in_err-texts-clause-told : goal.returns-in_err-texts-clause-told
returns-in_err-texts-clause-told g c = λ tells.
    let root = c.args.root.now in
    let etc = map string_bytes c.args.etc.now in
    let w = g.D.System.reads c.args.system.now in
    let items = λ (v : Vec (Vec ℕ Global) Global). map (λ t. t.items) v.items in
    let chosen = ap (map choice_of) c.deref-2.ensures.value ∙ c.in_ok-chosen.ensures.chosen in
    subst (λ l. ReachesValue texts_in w (texts_of_names root etc (map string_bytes l)) c.from_residual-in_err-texts.result) c.deref.ensures.value
    (chosen_unread w root etc (map string_bytes c.deref.result.now) items c.in_ok-chosen.ensures.few texts_in c.in_err-texts.field-0.0 c.from_residual-in_err-texts.result
    (subst (λ l. ReachesValue items w (read_texts (paths_of root l) []) (Err c.in_err-texts.field-0.0)) chosen (c.in_err-texts.ensures.told tells)) c.from_residual-in_err-texts.ensures.1)

pub returns-clause-told : goal.returns-clause-told
returns-clause-told g c = λ tells.
    let root = c.args.root.now in
    let etc = map string_bytes c.args.etc.now in
    let w = g.D.System.reads c.args.system.now in
    let items = λ (v : Vec (Vec ℕ Global) Global). map (λ t. t.items) v.items in
    let usr = map string_bytes c.deref.result.now in
    let chosen = ap (map choice_of) c.deref-2.ensures.value ∙ c.in_ok-chosen.ensures.chosen in
    let reads = subst (λ l. ReachesValue items w (read_texts (paths_of root l) []) (Ok c.in_ok-texts.texts)) chosen (c.in_ok-texts.ensures.told tells) in
    λ next e ends. subst (λ l. Ends w (texts_of_names root etc (map string_bytes l) next) e) c.deref.ensures.value
    (chosen_read w root etc usr items c.in_ok-chosen.ensures.few c.in_ok-texts.texts reads next e
    (subst (λ l. Ends w (next (with_texts usr l (items c.in_ok-texts.texts))) e) c.in_ok-chosen.ensures.chosen
    (subst (λ l. Ends w (next (with_texts (map string_bytes l) (map choice_of c.in_ok-chosen.chosen.items) (items c.in_ok-texts.texts))) e) (sym c.deref.ensures.value) ends)))

pub returns-clause-among : goal.returns-clause-among
returns-clause-among g c =
    let etc = map string_bytes c.args.etc.now in
    record {
      listed = refl;
      chosen = subst (λ l. map choice_of c.in_ok-chosen.chosen.items ≡ choice etc (map string_bytes l)) c.deref.ensures.value c.in_ok-chosen.ensures.chosen;
      few = subst (λ l. length (names etc (map string_bytes l)) ≤ max_files) c.deref.ensures.value c.in_ok-chosen.ensures.few;
    }
