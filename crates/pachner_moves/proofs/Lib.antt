pub mod MaskLaws
pub mod MatchLaws
pub mod CodeLaws
pub mod FreshLaws
