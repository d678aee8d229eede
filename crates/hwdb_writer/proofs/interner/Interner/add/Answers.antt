use Rattle.std.proofs.Common.{◌∙◌, ◌++◌, [], ◌∷◌, ap, length, sym}
use Rattle.std.proofs.lemmas.List.{length-map}
use Rattle.hwdb_writer.specs.Internal.Word.{word_of}
use Rattle.hwdb_writer.specs.Internal.Numbered.{texts}
use Rattle.hwdb_writer.proofs.MembershipLemmas.{same_path}
use Rattle.hwdb_writer.proofs.StoredLemmas.{grows_by, last_under}
use Rattle.hwdb_writer.proofs.TableLemmas.{texts_and_one}
use Rattle.hwdb_writer.proofs.interner.Interner.add.Goals as goal

pub returns-clause-grows : goal.returns-clause-grows
returns-clause-grows c =
    let more = texts_and_one c.self.inside.words.items c.push.new.self.items _ c.args.word.word c.args.self.now c.in_ok-push.ensures.items c.numbered.ensures.word c.self.view_is in
    grows_by c.args.self.now (texts c.push.new.self.items) (c.args.word.word ∷ []) more

pub returns-clause-members : goal.returns-clause-members
returns-clause-members c =
    let more = texts_and_one c.self.inside.words.items c.push.new.self.items _ c.args.word.word c.args.self.now c.in_ok-push.ensures.items c.numbered.ensures.word c.self.view_is in
    same_path (texts c.push.new.self.items) (c.args.self.now ++ c.args.word.word ∷ []) more

pub returns-clause-number : goal.returns-clause-number
returns-clause-number c =
    let more = texts_and_one c.self.inside.words.items c.push.new.self.items _ c.args.word.word c.args.self.now c.in_ok-push.ensures.items c.numbered.ensures.word c.self.view_is in
    last_under c.args.self.now (texts c.push.new.self.items) c.args.word.word _ more
    (ap length c.as_slice.ensures.value ∙ sym (length-map c.self.inside.words.items word_of) ∙ ap length c.self.view_is)
