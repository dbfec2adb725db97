-- The types that code and definitions share, as src/lib.rt declares them.
pub use Rattle.rules.specs.declared.Setting.{Setting}
pub use Rattle.rules.specs.declared.Refusal.{Refusal}
pub use Rattle.rules.specs.declared.Given.{Given}
pub use Rattle.rules.specs.declared.Function.{Function}
pub use Rattle.rules.specs.declared.Answer.{Answer}
pub use Rattle.rules.specs.declared.Unanswered.{Unanswered}
pub use Rattle.rules.specs.declared.Ymd.{Ymd}
pub use Rattle.rules.specs.declared.Time.{Time}
