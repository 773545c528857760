pub mod Histories
pub mod OrderOfOpening
pub mod EachCounted
pub mod WhatFollows
pub mod WorkedCases
