pub mod ConeLaws
pub mod FaultLaws
pub mod FormLaws
pub mod TableLaws
