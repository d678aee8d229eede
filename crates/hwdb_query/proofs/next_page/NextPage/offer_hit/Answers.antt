use Rattle.std.proofs.Common.{◌∙◌, sym, refl, Some}
use Rattle.hwdb_reader.specs.Views.{Shown}
use Rattle.hwdb_query.specs.Internal.Members.{assignment_shown}
use Rattle.hwdb_query.specs.declared.hit_page.NewHit.{NewHit}
use Rattle.hwdb_query.proofs.CollectionLemmas.{page_offered_early, page_offered}
use Rattle.hwdb_query.proofs.next_page.NextPage.offer_hit.Goals as goal

-- what it shows
abbrev shows : NewHit → Shown
shows h = record { priority = h.priority; line = h.line; key = Some h.key.now; value = h.value.now; path = h.path.now }

pub returns-in_ok-keep : goal.returns-in_ok-keep
unfolding assignment_shown
returns-in_ok-keep c =
    page_offered c.args.self.now (record { after = c.args.self.now.after; held = c.keep.new.self }) c.args.hit.pattern.now c.args.hit.key.now (shows c.args.hit)
    refl (sym c.is_past.ensures ∙ c.if-is_past.true) refl c.in_ok-keep.ensures.most c.in_ok-keep.ensures.kept

pub returns-else-is_past : goal.returns-else-is_past
unfolding assignment_shown
returns-else-is_past c =
    page_offered_early c.args.self.now c.args.hit.pattern.now c.args.hit.key.now (shows c.args.hit) refl (sym c.is_past.ensures ∙ c.if-is_past.false)
