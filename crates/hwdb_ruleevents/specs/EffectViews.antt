-- What effects, and what is known, mean.
use Rattle.std.specs.Prelude.{map}
use Rattle.hwdb_rulerun.specs.Views.{entry_view, sight_of}
use Rattle.hwdb_ruleevents.specs.Effects
use Rattle.hwdb_ruleevents.specs.ChangeViews.{held_of}
use Rattle.hwdb_ruleevents.specs.ParentViews.{chosen_of}
use Rattle.hwdb_ruleevents.specs.declared.effects.Effect.{Effect}
use Rattle.hwdb_ruleevents.specs.declared.effects.Facts.{Facts}

abbrev pub effect_view : Effect → Effects.Effect
effect_view e = record { succeeds = e.succeeds; changes = map held_of e.changes.items }

abbrev pub knowledge_of : Effects.Commands → Facts → Effects.Knowledge
knowledge_of commands f = record { sight = sight_of f.sight; parent = chosen_of f.parent; others = map entry_view f.others.now; commands = commands }
