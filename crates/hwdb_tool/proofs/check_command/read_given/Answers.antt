use Rattle.std.proofs.Common.{All, Global, List, String, Vec, [], ap, drop, inr, length, map, rules, string_bytes, subst, sym, take, ◌+◌, ◌++◌, ◌∙◌, ◌∷◌, ◌≡◌, ◌≤◌, Some, ℕ}
use Rattle.std.proofs.lemmas.List.{drop_all, map-append, take_all}
use Rattle.std.proofs.lemmas.List.Elements.{All-more, All-nil, All-push}
use Rattle.hwdb_spec.specs.Texts.{max_file}
use Rattle.hwdb_tool.specs.Internal.{bytes_given}
use Rattle.hwdb_spec_commands.specs.Reasons.{IsReadGiven}
use Rattle.hwdb_tool.proofs.CheckLemmas.{read_given, texts_given_more}
use Rattle.hwdb_plan.specs.Lemmas.Files.{AreRead, all_read, are_bytes, more_read, none_read, not_bytes, stops_reading}
use Rattle.hwdb_tool.proofs.FileLemmas.{next_path, paths_more}
use Rattle.hwdb_tool.proofs.check_command.read_given.Goals as goal

pub returns-in_err-bytes-clause-told : goal.returns-in_err-bytes-clause-told
returns-in_err-bytes-clause-told g c = λ tells.
    let w = g.D.System.reads c.args.system.now in
    let given = c.args.given.now in
    let words = map string_bytes c.args.words.now in
    let text = c.args.text.now in
    let all = map string_bytes given in
    let k = c.loop-path.path-index in
    let path = c.path-item.result in
    let q = c.as_str-path.result.now in
    let r = c.in_err-bytes.field-0.0 in
    stops_reading w words text all (λ (v : Vec (Vec ℕ Global) Global). map (λ t. t.items) v.items) q (map string_bytes (drop (k + 1) given)) (map string_bytes (take k given)) (map (λ t. t.items) c.loop-path.texts.items) r
    c.from_residual.result
    (subst (λ (l : List (List ℕ)). AreRead w words text all l (map string_bytes (take k given)) (map (λ t. t.items) c.loop-path.texts.items))
    (next_path given k path c.path-item.is c.loop-path-test.true ∙ ap (λ (p : List ℕ). p ∷ map string_bytes (drop (k + 1) given)) (sym c.as_str-path.ensures.value)) (c.loop-path.invariant.told tells))
    (not_bytes w words text c.is_named-named.result.0 q (c.is_named-named.ensures.named c.loop-path.invariant.among) r (c.in_err-bytes.ensures.told tells) c.in_err-bytes.ensures.text)
    c.from_residual.ensures.1

pub loop-path-init : goal.loop-path-init
loop-path-init g c =
    let w = g.D.System.reads c.args.system.now in
    let words = map string_bytes c.args.words.now in
    let all = map string_bytes c.args.given.now in
    let text = c.args.text.now in
    let items = λ (v : Vec ℕ Global). v.items in
    let short = λ (v : Vec ℕ Global). length v.items ≤ max_file in
    let none = c.new-texts.ensures.items in
    record {
      count = ap length none;
      among = λ path is. is;
      told = λ tells. subst (λ (l : List (Vec ℕ Global)). AreRead w words text all all [] (map items l)) (sym none) (none_read w words text all);
      read = λ tells. ap (λ (l : List (Vec ℕ Global)). map Some (map items l)) none;
      files = λ tells. All-nil (λ (s : String Global). IsReadGiven (g.D.Store.seen c.args.system.now) (string_bytes s));
      within = λ s. subst (All short) (sym none) (All-nil short);
    }

pub loop-path-preserved : goal.loop-path-preserved
loop-path-preserved g c =
    let w = g.D.System.reads c.args.system.now in
    let given = c.args.given.now in
    let words = map string_bytes c.args.words.now in
    let text = c.args.text.now in
    let all = map string_bytes given in
    let k = c.loop-path.path-index in
    let path = c.path-item.result in
    let q = c.as_str-path.result.now in
    let seen = g.D.Store.seen c.args.system.now in
    let file = λ (s : String Global). IsReadGiven seen (string_bytes s) in
    let items = λ (v : Vec ℕ Global). v.items in
    let short = λ (v : Vec ℕ Global). length v.items ≤ max_file in
    let more : c.push.new.self.items ≡ c.loop-path.texts.items ++ c.in_ok-bytes.bytes ∷ [] = search rules in
    record {
      count = search rules;
      among = c.is_named-named.ensures.left c.loop-path.invariant.among;
      told = λ tells.
          subst (λ (names : List (List ℕ)). AreRead w words text all (map string_bytes (drop (k + 1) given)) names (map items c.push.new.self.items))
          (ap (λ (p : List ℕ). map string_bytes (take k given) ++ p ∷ []) c.as_str-path.ensures.value ∙ sym (paths_more given k path c.path-item.is c.loop-path-test.true))
          (subst (λ (ts : List (List ℕ)). AreRead w words text all (map string_bytes (drop (k + 1) given)) (map string_bytes (take k given) ++ q ∷ []) ts)
          (sym (ap (map items) more ∙ map-append items c.loop-path.texts.items (c.in_ok-bytes.bytes ∷ [])))
          (more_read w words text all q (map string_bytes (drop (k + 1) given)) (map string_bytes (take k given)) (map items c.loop-path.texts.items) c.in_ok-bytes.bytes.items
          (subst (λ (l : List (List ℕ)). AreRead w words text all l (map string_bytes (take k given)) (map items c.loop-path.texts.items))
          (next_path given k path c.path-item.is c.loop-path-test.true ∙ ap (λ (p : List ℕ). p ∷ map string_bytes (drop (k + 1) given)) (sym c.as_str-path.ensures.value)) (c.loop-path.invariant.told tells))
          (are_bytes w words text c.is_named-named.result.0 q (c.is_named-named.ensures.named c.loop-path.invariant.among) c.in_ok-bytes.bytes.items (c.in_ok-bytes.ensures.told tells) c.in_ok-bytes.ensures.text)));
      read = λ tells. texts_given_more c.args.text.now seen c.args.given.now c.loop-path.path-index c.path-item.result _ _ _
          (c.loop-path.invariant.read tells) c.path-item.is c.loop-path-test.true
          (subst (λ p. bytes_given c.args.text.now seen p ≡ Some c.in_ok-bytes.bytes.items) c.as_str-path.ensures.value (c.in_ok-bytes.ensures.read tells))
          (ap (map items) more ∙ map-append items c.loop-path.texts.items (c.in_ok-bytes.bytes ∷ []));
      files = λ tells. All-more file c.args.given.now c.loop-path.path-index c.path-item.result c.loop-path-test.true (c.loop-path.invariant.files tells)
          (subst file c.path-item.is (subst (λ p. IsReadGiven seen p) c.as_str-path.ensures.value
          (read_given seen c.as_str-path.result.now c.args.text.now c.in_ok-bytes.bytes.items (c.in_ok-bytes.ensures.read tells) c.in_ok-bytes.ensures.within)));
      within = λ s. subst (All short) (sym more) (All-push short c.loop-path.texts.items c.in_ok-bytes.bytes (c.loop-path.invariant.within s) (c.in_ok-bytes.ensures.within (inr s)));
    }

pub returns-clause-told : goal.returns-clause-told
returns-clause-told g c = λ tells.
    let given = c.args.given.now in
    let k = c.loop-path.path-index in
    all_read (g.D.System.reads c.args.system.now) (map string_bytes c.args.words.now) c.args.text.now (map string_bytes given) (map string_bytes given) (map (λ t. t.items) c.loop-path.texts.items)
    (subst (λ (left : List (List ℕ)). AreRead (g.D.System.reads c.args.system.now) (map string_bytes c.args.words.now) c.args.text.now (map string_bytes given) left (map string_bytes given) (map (λ t. t.items) c.loop-path.texts.items))
    (ap (map string_bytes) (drop_all k given c.loop-path-test.false))
    (subst (λ (l : List (String Global)). AreRead (g.D.System.reads c.args.system.now) (map string_bytes c.args.words.now) c.args.text.now (map string_bytes given) (map string_bytes (drop k given)) (map string_bytes l) (map (λ t. t.items) c.loop-path.texts.items))
    (take_all k given c.loop-path-test.false) (c.loop-path.invariant.told tells)))
