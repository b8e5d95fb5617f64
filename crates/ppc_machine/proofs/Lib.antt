pub mod CallLaws
pub mod KeptLaws
pub mod SigLaws
pub mod Quiet
