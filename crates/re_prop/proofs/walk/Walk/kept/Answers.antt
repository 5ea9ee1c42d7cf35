use Rattle.std.proofs.Common.{◌∙◌}
use Rattle.re_terms.specs.Views.{view_of}
use Rattle.re_prop.proofs.Before.{kept_word}
use Rattle.re_prop.proofs.walk.Walk.kept.Goals as goal

pub returns : goal.returns
returns c = c.old.ensures ∙ kept_word c.args.self.now.program.now c.args.self.now.state.now.words.items (view_of c.args.self.now.state.now.rep) c.args.id c.args.decl.now c.requires.at c.requires.cell
